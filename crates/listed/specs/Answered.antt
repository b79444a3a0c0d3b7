-- The list of all loose answers, and the walk over a right table lists it.
--   loose_sound, loose_complete, loose_ascending, loose_once, loose_unique   loose_answers has just the loose answers, ascending, each once
--   Bits pass          pass says of each node and entry whether there is a match: what a right table's bits say
--   bits_bounded       then no range fails below
--   bits_same, bits_listed   and the walk's answers are the loose answers
use Prim.Native.Nat.{ℕ, suc, ◌≤◌, ◌<◌}
use Rattle.std.specs.Prelude.{◌≡◌, ◌↔◌, Bool, true}
use Rattle.std.proofs.Math.Path.{refl, ap, subst}
use Rattle.std.proofs.Common.{◌∙◌, sym, arith}
use mathlib.Core.List.Memᴰ
use mathlib.Core.List.{List, [], ◌∷◌, map, reverse, reverse-reverse, Memᴰ}
use Rattle.std.proofs.Math.Decide.{ℕ_discrete}
use Rattle.std.proofs.Math.ListN.{length, length-reverse}
use Rattle.trees.specs.Signature.{Entries}
use Rattle.trees.specs.Facts.{Facts}
use Rattle.trees.specs.Names.{Passes, passes_true, true_passes}
use Rattle.walks.specs.Every.{Pairs, pairs_weaken, pairs_unique}
use Rattle.walks.specs.Walking.{Choices, answers_from}
use Rattle.walks.specs.Answers.{Fits, Good}
use Rattle.walks.specs.Plain.{InRange, plain_rising, plain_good, plain_exactly, inside_fits}
use Rattle.walks.specs.Listing.{answers_ascending, answers_unique}
use Rattle.walks.specs.Potential.{Bounded}
use Rattle.walks.specs.Preorder.{Smaller, smaller_never, smaller_trans, ascending_smaller}
use Rattle.walks.specs.Room.{image_of, image_zero}
use Rattle.walks.specs.Image.{image, Below, pass_of, reverse_image}
use Rattle.listed.specs.Loose.{LooseAnswer}
use Rattle.listed.specs.Matching.{Match, match, answer_match}
use Rattle.listed.specs.Choosing.{parent_of, choices, choices_plain, loose_answers, NodeFits, end_high, nodes_of, of_nodes}

module _ (n m : ℕ) (e w : Entries) (tree : Facts n e) (twig : Facts m w) where
  abbrev names : Choices
  names = choices n e w (pass_of e w)

  -- the image of a node's twig parent
  parent_image_law : (z : List ℕ) (q : ℕ) → 1 < q → q ≤ m → image (reverse z) (w.fa q) ≡ image_of z (w.fa q)
  parent_image_law z q a b = reverse_image z (w.fa q) (twig.inner q a b)

  nodes_answer : (z : List ℕ) → length z ≡ m → ((q : ℕ) → 1 ≤ q → q ≤ m → NodeFits n m e w tree twig (pass_of e w) z q)
      → LooseAnswer n m e w (reverse z)
  nodes_answer z k h = record {
    nodes = length-reverse z ∙ k;
    each = λ q a b.
        let i = reverse_image z q a in
        let f = h q a b in
        record {
          low = rw i (omega (arith, f.above));
          high = rw i f.high;
          name = rw i (passes_true (w.name q) (e.name (image_of z q)) f.test);
        };
    below = λ q a b.
        let f = h q (omega arith) b in
        rw (reverse_image z q (omega arith), parent_image_law z q a b) (record { after = f.above; before = f.within a });
  }

  answer_nodes : (z : List ℕ) → LooseAnswer n m e w (reverse z) → (q : ℕ) → 1 ≤ q → q ≤ m → NodeFits n m e w tree twig (pass_of e w) z q
  answer_nodes z h q a b = record {
    above = parent_less (ℕ_discrete q 1);
    high = rw i at (h.each q a b).high;
    within = λ l. rw (i, parent_image_law z q l b) at (h.below q l b).before;
    test = true_passes (w.name q) (e.name (image_of z q)) (rw i at (h.each q a b).name);
  }
    where
      i : image (reverse z) q ≡ image_of z q
      i = reverse_image z q a

      parent_less : Dec (q ≡ 1) → image_of z (w.fa q) < image_of z q
      parent_less (yes k) = rw (ap w.fa k ∙ twig.root_fa, image_zero z) (rw i at (h.each q a b).low)
      parent_less (no k) = rw (i, parent_image_law z q (omega arith) b) at (h.below q (omega arith) b).after

  -- ---- all loose answers

  -- what is listed is a loose answer
  pub loose_sound : (l : List ℕ) → Memᴰ l (loose_answers n m e w) → LooseAnswer n m e w l
  unfolding loose_answers
  loose_sound l h =
      let z = Memᴰ.of_map reverse (answers_from names m []) h in
      let i = (plain_exactly names (choices_plain n e w (pass_of e w)) m z.0).0 z.1 in
      subst (LooseAnswer n m e w) z.2
      (nodes_answer z.0 i.0 (λ q a b. nodes_of n m e w tree twig (pass_of e w) z.0 (omega (arith, i.0)) i.1 q a
      (omega (arith, i.0))))

  -- and every loose answer is listed
  pub loose_complete : (l : List ℕ) → LooseAnswer n m e w l → Memᴰ l (loose_answers n m e w)
  unfolding loose_answers
  loose_complete l h =
      let z = reverse l in
      let k : length z ≡ m = length-reverse l ∙ h.nodes in
      let g : LooseAnswer n m e w (reverse z) = subst (LooseAnswer n m e w) (sym (reverse-reverse l)) h in
      let i = of_nodes n m e w tree twig (pass_of e w) z (omega arith) (λ q a b. answer_nodes z g q a (omega arith)) in
      subst (λ (y : List ℕ). Memᴰ y (map reverse (answers_from names m []))) (reverse-reverse l)
      (Memᴰ.map reverse ((plain_exactly names (choices_plain n e w (pass_of e w)) m z).1 (k, i)))

  -- ascending, each smaller than those after it
  pub loose_ascending : Pairs Smaller (loose_answers n m e w)
  unfolding loose_answers
  loose_ascending =
      ascending_smaller (answers_from names m []) (answers_ascending names (plain_rising names (choices_plain n e w (pass_of e w))) m [] tt)

  -- so none is listed twice
  pub loose_once : Pairs (λ y z. y ≡ z → ⊥) (loose_answers n m e w)
  loose_once =
      pairs_weaken (λ y z l k. smaller_never z (subst (λ (x : List ℕ). Smaller x z) k l)) (loose_answers n m e w) loose_ascending

  -- and any ascending list of just the loose answers is this one
  pub loose_unique : (l : List (List ℕ)) → Pairs Smaller l → ((z : List ℕ) → Memᴰ z l ↔ LooseAnswer n m e w z)
      → l ≡ loose_answers n m e w
  loose_unique l p h =
      pairs_unique Smaller smaller_never (λ x y z p q. smaller_trans p q) l (loose_answers n m e w) p loose_ascending
      (λ z k. loose_complete z ((h z).0 k)) (λ z k. (h z).1 (loose_sound z k))

  -- ---- the walk over a right table

  -- pass says of each node and entry whether there is a match
  abbrev pub Bits : (ℕ → ℕ → Bool) → Type 0
  Bits pass = (q c : ℕ) → 1 ≤ q → q ≤ m → 1 ≤ c → c ≤ n → (pass q c ≡ true) ↔ Match n m e w q c

  match_name : (q c : ℕ) → Match n m e w q c → Passes (w.name q) (e.name c)
  match_name q c (match l h p at u sub) = p

  module _ (pass : ℕ → ℕ → Bool) (bits : Bits pass) where
    abbrev walked : Choices
    walked = choices n e w pass

    bits_names : (z : List ℕ) (q : ℕ) → 1 ≤ q → q ≤ m → NodeFits n m e w tree twig pass z q → NodeFits n m e w tree twig (pass_of e w) z q
    bits_names z q a b h = record {
      above = h.above;
      high = h.high;
      within = h.within;
      test = true_passes (w.name q) (e.name (image_of z q))
          (match_name q (image_of z q) ((bits q (image_of z q) a b (omega (arith, h.above)) h.high).0 h.test));
    }

    names_bits : (z : List ℕ) → LooseAnswer n m e w (reverse z) → (q : ℕ) → 1 ≤ q → q ≤ m → NodeFits n m e w tree twig pass z q
    names_bits z g q a b =
        let h = answer_nodes z g q a b in
        let k : Match n m e w q (image_of z q) = subst (Match n m e w q) (reverse_image z q a)
        (answer_match n m e w twig (reverse z) g q a b) in
        record {
          above = h.above;
          high = h.high;
          within = h.within;
          test = (bits q (image_of z q) a b (omega (arith, h.above)) h.high).1 k;
        }

    -- the walk's answers are the loose answers
    walked_range : (z : List ℕ) → length z ≡ m → InRange walked z ↔ InRange names z
    walked_range z k = (
      λ h. of_nodes n m e w tree twig (pass_of e w) z (omega arith)
          (λ q a b. bits_names z q a (omega arith) (nodes_of n m e w tree twig pass z (omega arith) h q a b)),
      λ h.
          let g = nodes_answer z k (λ q a b. nodes_of n m e w tree twig (pass_of e w) z (omega arith) h q a (omega arith)) in
          of_nodes n m e w tree twig pass z (omega arith) (λ q a b. names_bits z g q a (omega arith)),
    )

    pub bits_same : answers_from walked m [] ≡ answers_from names m []
    bits_same =
        let p = choices_plain n e w pass in
        let r = choices_plain n e w (pass_of e w) in
        answers_unique names (plain_rising names r) m (answers_from walked m []) (answers_ascending walked (plain_rising walked p) m [] tt)
        (λ z.
        let x = plain_exactly walked p m z in
        let g = plain_good names r z in (
          λ k. let y = x.0 k in (y.0, g.1 ((walked_range z y.0).0 y.1)),
          λ k. x.1 (k.0, (walked_range z k.0).1 (g.0 k.1)),
        ))

    pub bits_listed : map reverse (answers_from walked m []) ≡ loose_answers n m e w
    unfolding loose_answers
    bits_listed = ap (map reverse) bits_same

    -- once a node is set, the next one never lacks a candidate with its bit
    never_fails : (x : ℕ) (xs : List ℕ) → Good walked (x ∷ xs) → suc (length xs) < m → (c : ℕ) × Fits walked (x ∷ xs) c
    unfolding parent_of
    never_fails x xs g l =
        let z = x ∷ xs in
        let k = suc (suc (length xs)) in
        let up : 1 ≤ w.fa k = twig.inner k (omega arith) l in
        let f : w.fa k < k = (twig.each k (omega arith) l).fa_high in
        let p = nodes_of n m e w tree twig pass z (omega arith) ((plain_good walked (choices_plain n e w pass) z).0 g) (w.fa k) up
        (omega arith) in
        let q = image_of z (w.fa k) in
        let c = under (w.fa k) k q (omega arith) l refl
        ((bits (w.fa k) q up (omega arith) (omega (arith, p.above)) p.high).0 p.test) in
        let t = tree.each q (omega (arith, p.above)) p.high in (
          c.0,
          inside_fits walked (choices_plain n e w pass)
              (record {
                low = c.1.after;
                high = c.1.before;
                passes = (bits k c.0 (omega arith) l (omega (arith, c.1.after)) (omega (arith, c.1.before, t.ff_high))).1 c.2;
              }),
        )
      where
        under : (p r y : ℕ) → 1 ≤ r → r ≤ m → w.fa r ≡ p → Match n m e w p y → (c : ℕ) × Below e.ff y c × Match n m e w r c
        under p r y a b f (match l h s at u sub) = (at r a b f, u r a b f, sub r a b f)

    pub bits_bounded : Bounded walked m n
    bits_bounded = record {
      low = λ xs g l. omega arith;
      high = λ xs g l.
          end_high n m e w tree twig pass xs
          (λ q a b. nodes_of n m e w tree twig pass xs (omega arith) ((plain_good walked (choices_plain n e w pass) xs).0 g) q a b) l;
      never_fails = never_fails;
    }
