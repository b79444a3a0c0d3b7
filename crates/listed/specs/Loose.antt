-- Loose answers, as document 01 defines them. No table is named here.
--   Ranked n e w x q   the images x give node q a rank, and its name passes
--   LooseAnswer n m e w l   l is a loose answer, its numbers in twig preorder
--   PartFits n e w q t  the twig's part under q fits loosely with q at t
use Rattle.std.specs.Prelude.{ℕ, ◌≤◌, ◌<◌, ◌≡◌, List, length}
use Rattle.trees.specs.Signature.{Entries}
use Rattle.trees.specs.Names.{Passes}
use Rattle.walks.specs.Image.{image, Below}

-- what an answer, or a part of one, says of a node: "gives each twig node a rank; a name must be equal unless the twig's is 0"
pub record Ranked (n : ℕ) (e w : Entries) (x : ℕ → ℕ) (q : ℕ) : Type 0 where
  pub low : 1 ≤ x q
  pub high : x q ≤ n
  pub name : Passes (w.name q) (e.name (x q))

-- "each node but the root lies below the image of its twig parent. Two nodes may share an entry."
pub record LooseAnswer (n m : ℕ) (e w : Entries) (l : List ℕ) : Type 0 where
  pub nodes : length l ≡ m
  pub each : (q : ℕ) → 1 ≤ q → q ≤ m → Ranked n e w (image l) q
  pub below : (q : ℕ) → 1 < q → q ≤ m → Below e.ff (image l (w.fa q)) (image l q)

-- the part under q, which is q and the nodes below it, fits with q at t: what a loose answer asks, of these nodes only
pub record PartFits (n : ℕ) (e w : Entries) (q t : ℕ) : Type 0 where
  pub image : ℕ → ℕ
  pub top : image q ≡ t
  pub each : (r : ℕ) → q ≤ r → r < w.ff q → Ranked n e w image r
  pub below : (r : ℕ) → q < r → r < w.ff q → Below e.ff (image (w.fa r)) (image r)
