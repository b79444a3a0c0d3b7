-- Demand 2 and demand 3 of the check, over any chain of public turns from the fresh state, with any budgets.
--   TreeOf, tree_of    what the layers above use of a list that a tree yields
--   Sound, chain_sound  where a chain reports the end, it has read a tree, in steps that add up to 2×n
--   accepted_sound      so a tree yields the list
--   Came, chain_complete  where a tree yields the list, turns with 2×n steps to spend in all report the end after 2×n; others spend all they have
use Rattle.std.specs.Prelude.{ℕ, ◌+◌, ◌-◌, ◌*◌, ◌≤◌, ◌<◌, ◌≡◌, refl, ◌⊎◌, List, true, length}
use Rattle.std.proofs.Common.{ap, ◌∙◌, sym, subst, inl, inr, arith}
use Rattle.std.proofs.Math.Decide.{ℕ_discrete}
use Rattle.turns.specs.Turn.{Halt}
use Rattle.turns.specs.Chains.{chain_steps, chain_ends, chain_finished, Reached, Underway}
use Rattle.trees.specs.Tree.{size, Tree, whole}
use Rattle.trees.specs.Signature.{Entries, cell, entries_of, width, signature, entries}
use Rattle.trees.specs.Rows.{Holds}
use Rattle.trees.specs.Listed.{signature_length, listed_whole, whole_listed}
use Rattle.trees.specs.Facts.{Facts}
use Rattle.trees.specs.FactsOf.{facts_of}
use Rattle.terms.specs.declared.Kind.{Kind}
use Rattle.checking.specs.declared.CheckState.{CheckState}
use Rattle.terms.specs.declared.Stop.{Stop}
use Rattle.terms.specs.Kinds.{any_name, most}
use Rattle.checking.specs.Rule.{at, fresh, step_of, accepted}
use Rattle.terms.specs.Stops.{told, halt_told}
use Rattle.terms.specs.Length.{length_fault}
use Rattle.checking.proofs.Cases.{accepted_yes, fresh_ranges}
use Rattle.terms.proofs.Lengths.{Sized, length_sized, length_fine}
use Rattle.checked.specs.Walked.{Run, Fine, walk_tree}
use Rattle.checked.specs.Parsed.{accepted_read}
use Rattle.checked.specs.Yields.{Words, Yields, Turns}
use Rattle.checked.specs.Named.{root_fine, fine_named}
use Rattle.checked.specs.Apart.{halt_told_law, told_halt, stop_of}
use Rattle.checked.specs.Chained.{Fits, Ran, chain_ran, chain_length, run_moves}
use Rattle.terms.specs.declared.Turn.{Turn}

-- the tree of a list, with what every call above uses of it
pub record TreeOf (s : List ℕ) (tree : Tree) : Type 0 where
  pub is : s ≡ signature tree
  pub count : size (whole tree) ≡ entries s
  pub holds : Holds (entries_of width s) (whole tree) 1 0 0
  pub facts : Facts (entries s) (entries_of width s)

-- a tree's list has 4×n numbers, and n is its number of entries
pub tree_of : (s : List ℕ) (t : Tree) → s ≡ signature t → TreeOf s t
tree_of s t e =
    let l : length s ≡ 4 * size (whole t) = ap length e ∙ signature_length (whole t) 1 0 0 in
    let h = listed_whole s (whole t) e in
    let n : size (whole t) ≡ entries s = omega arith in
    record { is = e; count = n; holds = h; facts = subst (λ (x : ℕ). Facts x (entries_of width s)) n (facts_of t (entries_of width s) h) }

module _ (k : Kind) (s : List ℕ) where
  abbrev e : Entries
  e = entries_of width s

  -- ---- where the end is reported, a tree yields the list

  -- the tree that an accepted run has read
  pub record Sound (K : ℕ) : Type 0 where
    pub tree : Tree
    pub read : TreeOf s tree
    pub named : Fine (any_name k) e (whole tree) 1 0
    pub small : entries s ≤ most k
    pub steps : K ≡ 2 * entries s

  ended_sound : (K : ℕ) (to : CheckState) → Sized (most k) width (length s) → Run (any_name k) (entries s) e K fresh to
      → accepted (entries s) to ≡ true → Sound K
  ended_sound K to z m a =
      let r = accepted_read (any_name k) (entries s) e K to (omega (arith, z.some, z.even)) m a in
      let t : Tree = record { name = r.label; below = r.kids } in
      record {
        tree = t;
        read = tree_of s t (whole_listed s (whole t) (omega (arith, z.even, r.whole)) r.holds);
        named = r.fine;
        small = z.small;
        steps = r.count;
      }

  pub chain_sound : {B K : ℕ} {r : Turn CheckState} → Turns k s fresh B K r → r.stop ≡ Stop.End → Sound K
  chain_sound {K = K} {r = r} c h = go (ℕ_discrete (length_fault (most k) width (length s)) 0)
    where
      go : Dec (length_fault (most k) width (length s) ≡ 0) → Sound K
      go (no n) = absurd (chain_length k s n c (ap told h))
      go (yes f) =
          let x = chain_ran k s f (fresh_ranges (entries s)) c in
          let q = halt_told_law x.last.halt Halt.end (sym x.handed.stop ∙ ap told h) in
          ended_sound K x.last.state (length_sized (most k) width (length s) f)
          (run_moves k s (chain_steps CheckState (accepted (entries s)) (step_of (any_name k) (entries s) e) x.chain))
          (chain_finished CheckState (accepted (entries s)) (step_of (any_name k) (entries s) e) x.chain q)

  -- the tree of kind k that yields the list
  sound_yields : {K : ℕ} → Words s → Sound K → Yields k s
  unfolding cell
  sound_yields w x = record {
    tree = x.tree;
    grown = record {
      named = fine_named (any_name k) e (λ i. w (width * (i - 1) + 0)) (whole x.tree) 1 0 0 x.read.holds x.named;
      small = omega (arith, x.small, x.read.count);
    };
    is = x.read.is;
  }

  pub accepted_sound : {B K : ℕ} {r : Turn CheckState} → Words s → Turns k s fresh B K r → r.stop ≡ Stop.End → Yields k s × (K ≡ 2 * entries s)
  accepted_sound w c h = let x = chain_sound c h in (sound_yields w x, x.steps)

  -- ---- where a tree yields the list, the end is reported

  module _ (y : Yields k s) where
    abbrev t : TreeOf s y.tree
    t = tree_of s y.tree y.is

    yields_fits : Fits k s
    yields_fits =
        let l : length s ≡ 4 * size (whole y.tree) = ap length y.is ∙ signature_length (whole y.tree) 1 0 0 in
        length_fine (most k) width (length s) (omega arith) (omega arith) (omega (arith, y.grown.small))

    -- exactly 2×n steps of the written rule, from the fresh state to the end
    pub yields_run : Run (any_name k) (entries s) e (2 * entries s) fresh (at (entries s + 1) 0 (entries s))
    yields_run =
        walk_tree (any_name k) (entries s) e y.tree.name y.tree.below t.holds
        (root_fine (any_name k) e y.tree.name y.tree.below t.holds y.grown.named) t.count

    -- with 2×n steps to spend in all, the end
    pub record Complete (B K : ℕ) (r : Turn CheckState) : Type 0 where
      pub enough : 2 * entries s ≤ B
      pub steps : K ≡ 2 * entries s
      pub stop : r.stop ≡ Stop.End
      pub state : r.state ≡ at (entries s + 1) 0 (entries s)

    -- with fewer, the budget, after all of them
    pub record Short (B K : ℕ) (r : Turn CheckState) : Type 0 where
      pub short : B < 2 * entries s
      pub steps : K ≡ B
      pub stop : r.stop ≡ Stop.Budget

    -- turns with B steps to spend in all come to the end after 2×n steps, or spend all B and are stopped by the budget
    abbrev pub Came : ℕ → ℕ → Turn CheckState → Type 0
    Came B K r = Complete B K r ⊎ Short B K r

    pub chain_complete : {B K : ℕ} {r : Turn CheckState} → Turns k s fresh B K r
        → Came B K r
    chain_complete {B} {K} {r} c = go (chain_ends CheckState (accepted (entries s)) (step_of (any_name k) (entries s) e) x.chain (2 * entries s)
        (at (entries s + 1) 0 (entries s)) (accepted_yes (entries s) (at (entries s + 1) 0 (entries s)) refl refl) yields_run)
      where
        x : Ran k s fresh B K r
        x = chain_ran k s yields_fits (fresh_ranges (entries s)) c

        stopped : (h : Halt) → x.last.halt ≡ h → r.stop ≡ stop_of h
        stopped h q = told_halt r.stop h (x.handed.stop ∙ ap halt_told q)

        go : Reached CheckState (accepted (entries s)) (step_of (any_name k) (entries s) e) (2 * entries s) B K (at (entries s + 1) 0 (entries s)) x.last
            ⊎ Underway CheckState (accepted (entries s)) (step_of (any_name k) (entries s) e) (2 * entries s) B K (at (entries s + 1) 0 (entries s)) x.last
            → Came B K r
        go (inl q) = inl (record { enough = q.enough; steps = q.steps; stop = stopped Halt.end q.halt; state = x.handed.state ∙ q.state })
        go (inr q) = inr (record { short = q.short; steps = q.steps; stop = stopped Halt.budget q.halt })
