-- The question from its fresh state: at most m×n steps lead to yes or no, and it is right.
--   Meant s t         what a stage says of ordered answers
--   Ending k st       at most k steps lead from st to a told state, which is right
--   Way q t l         what is known on the way
--   runs              from any state on the way
--   fits_rule         from the fresh state, whatever the room holds
use Rattle.std.specs.Prelude.{ℕ, zero, suc, ◌+◌, ◌-◌, ◌*◌, ◌≤◌, ◌<◌, ◌≡◌, refl, true, false, List, length, set}
use Rattle.std.proofs.Common.{ap, sym, ◌∙◌, subst, inr, arith, length-set, get_or-set_same}
use borrow.Author.Tests.{lt-leb, le-ltb}
use Rattle.turns.specs.Turn.{moved, Moves, stay, move}
use Rattle.trees.specs.Signature.{Entries}
use Rattle.trees.specs.Facts.{Facts}
use Rattle.ordering.specs.Answer.{Answer}
use Rattle.ordering.specs.TwigLaws as L
use Rattle.ordering.specs.Cases.{read_at, read_past}
use Rattle.ordering.specs.Table.{index, ends_in, one_of, FilledFrom}
use Rattle.ordering.specs.Filling.{index_within, ends_kept, one_fills, none_filled, row_done_law}
use Rattle.fits_rows.specs.declared.Stage.{Stage}
use Rattle.ordering.specs.Twig.{bad_end}
use Rattle.fits_rows.specs.Fitting.{Fitting, at, told, goes_on, fit_step}
use Rattle.fits_rows.specs.FittingLaws.{Goes, says_yes, goes_back, says_no, next_row_law, goes_of}
use Rattle.fits_laws.specs.Verdicts.{Latest, yes_answer, no_answer}

module _ (n : ℕ) (e : Entries) (m : ℕ) (w : Entries) where
  -- what a stage at entry t says: at yes there is an answer whose root stands at t, and none whose root stands later
  abbrev pub Meant : Stage → ℕ → Type 0
  Meant Stage.Asking t = Unit
  Meant Stage.Yes t = Latest n e m w t
  Meant Stage.No t = (xs : List ℕ) → Answer n e m w xs → ⊥

  -- at most k steps lead to a told state, which is right
  pub record Ending (k : ℕ) (st : Fitting) : Type 0 where
    pub count : ℕ
    pub few : count ≤ k
    pub fin : Fitting
    pub moves : Moves Fitting told (fit_step n e m w) count st fin
    pub ends : told fin ≡ true
    pub right : Meant fin.stage fin.entry

  after : (k : ℕ) (st mid : Fitting) → told st ≡ false → fit_step n e m w st ≡ moved mid → Ending k mid → Ending (suc k) st
  after k st mid f s r =
      record { count = suc r.count; few = omega (arith, r.few); fin = r.fin; moves = move f s r.moves; ends = r.ends; right = r.right }

  at_once : (st : Fitting) → told st ≡ true → Meant st.stage st.entry → (k : ℕ) → Ending k st
  at_once st f r k = record { count = 0; few = omega arith; fin = st; moves = stay; ends = f; right = r }

  module _ (tree : Facts n e) (twig : Facts m w) where
    not_bad : (t : ℕ) → 1 ≤ t → t ≤ n → bad_end n e t ≡ false
    unfolding bad_end
    not_bad t s k = let o = L.over n e tree t s k in rw (lt-leb (e.ff t) t o.0, le-ltb (n + 1) (e.ff t) o.1)

    step_is : (q t : ℕ) (l : List ℕ) → 1 ≤ t → t ≤ n
        → fit_step n e m w (at q t Stage.Asking l) ≡ moved (goes_on n q t (one_of n e m w l q t) (set l (index n q t) (one_of n e m w l q t)))
    unfolding fit_step
    step_is q t l s k = rw (not_bad t s k)

    row_back : (q t k : ℕ) → 1 < q → t ≤ 1 → 1 ≤ t → (q - 1) * n + t ≡ suc k → (q - 1 - 1) * n + n ≡ k
    row_back zero t k h l s z = absurd (omega arith)
    row_back (suc zero) t k h l s z = absurd (omega arith)
    row_back (suc (suc q)) t k h l s z =
        let a : suc (suc q) - 1 ≡ suc q = omega arith in
        let b : suc (suc q) - 1 - 1 ≡ q = omega arith in
        let c : suc q * n + t ≡ suc k = rw a at z in
        rw b (omega (arith, c))

    -- past the last entry nothing fits
    past : (l : List ℕ) (q a : ℕ) → n < a → q ≡ 1 → n + 1 < ends_in n l q a
    past l q a h z = omega (arith, read_past n l q a (λ o. omega arith) h)

    -- what is known on the way: the numbers behind are filled in, and in the root's row none of them says yes
    pub record Way (q t : ℕ) (l : List ℕ) : Type 0 where
      pub node_low : 1 ≤ q
      pub node_high : q ≤ m
      pub entry_low : 1 ≤ t
      pub entry_high : t ≤ n
      pub long : m * n ≤ length l
      pub filled : FilledFrom n e m w l q t
      pub no_yes : q ≡ 1 → n + 1 < ends_in n l q (t + 1)

    -- a number written keeps those behind it
    module _ (q t : ℕ) (l : List ℕ) (y : Way q t l) where
      abbrev v : ℕ
      v = one_of n e m w l q t

      abbrev u : List ℕ
      u = set l (index n q t) (one_of n e m w l q t)

      room : m * n ≤ length u
      room = omega (arith, y.long, length-set l (index n q t) v)

      there : index n q t < length l
      there = omega (arith, index_within n m q t y.node_low y.node_high y.entry_low y.entry_high, y.long)

      wrote : FilledFrom n e m w u q (t - 1)
      wrote = one_fills n e m w twig l q t y.node_low y.node_high y.entry_low y.entry_high there y.filled

      reads : ends_in n u q t ≡ v
      reads = sym (read_at n u q t (λ o. omega (arith, y.node_low)) y.entry_high) ∙ get_or-set_same l (index n q t) v 0 there

      behind : ends_in n u q (t + 1) ≡ ends_in n l q (t + 1)
      behind = ends_kept n l q t v y.node_low y.entry_low y.entry_high q (t + 1) (inr (inr (refl, omega arith)))

      way_back : 1 < t → (q ≡ 1 → n + 1 < v) → Way q (t - 1) u
      way_back h g = record {
        node_low = y.node_low;
        node_high = y.node_high;
        entry_low = omega arith;
        entry_high = omega (arith, y.entry_high);
        long = room;
        filled = wrote;
        no_yes = λ z. let k : t - 1 + 1 ≡ t = omega arith in rw k (omega (arith, g z, reads));
      }

      way_next : t ≤ 1 → (q ≡ 1 → ⊥) → Way (q - 1) n u
      way_next h g = record {
        node_low = omega (arith, g, y.node_low);
        node_high = omega (arith, y.node_high);
        entry_low = omega (arith, y.entry_low, y.entry_high);
        entry_high = omega arith;
        long = room;
        filled = let o : t - 1 ≡ 0 = omega arith in row_done_law n e m w twig u q y.node_low (subst (FilledFrom n e m w u q) o wrote);
        no_yes = λ z. past u (q - 1) (n + 1) (omega arith) z;
      }

      way_yes : q ≡ 1 → v ≤ n + 1 → Latest n e m w t
      way_yes h g =
          yes_answer n e m w tree twig u room t y.entry_low y.entry_high (subst (λ (p : ℕ). FilledFrom n e m w u p (t - 1)) h wrote)
          (omega (arith, g, reads, ap (λ (p : ℕ). ends_in n u p t) h)) (omega (arith, y.no_yes h, behind, ap (λ (p : ℕ). ends_in n u p (t + 1)) h))

      way_no : t ≤ 1 → n + 1 < v → (xs : List ℕ) → Answer n e m w xs → ⊥
      way_no h g =
          let o : t - 1 ≡ 0 = omega arith in
          let i : t ≡ 1 = omega (arith, y.entry_low) in
          no_answer n e m w tree twig u room q y.node_low y.node_high (subst (FilledFrom n e m w u q) o wrote)
          (omega (arith, g, reads, ap (ends_in n u q) i))

    -- by induction on what is left, (q−1)×n + t
    pub runs : (k q t : ℕ) (l : List ℕ) → (q - 1) * n + t ≡ k → Way q t l → Ending k (at q t Stage.Asking l)
    runs zero q t l z y = absurd (omega (arith, y.entry_low))
    runs (suc k) q t l z y =
        after k (at q t Stage.Asking l) (goes_on n q t (v q t l y) (u q t l y)) refl (step_is q t l y.entry_low y.entry_high)
        (by _ (goes_of n q t (v q t l y) (u q t l y)) (λ p s o a b. runs k p s o a b))
      where
        by : (to : Fitting) → Goes n q t (v q t l y) (u q t l y) to
            → ((p s : ℕ) (o : List ℕ) → (p - 1) * n + s ≡ k → Way p s o → Ending k (at p s Stage.Asking o)) → Ending k to
        by to (says_yes h g) ih = at_once (at q t Stage.Yes (u q t l y)) refl (way_yes q t l y h g) k
        by to (goes_back h g) ih = ih q (t - 1) (u q t l y) (omega arith) (way_back q t l y h g)
        by to (says_no h g) ih = at_once (at q t Stage.No (u q t l y)) refl (way_no q t l y h g) k
        by to (next_row_law h g) ih =
            ih (q - 1) n (u q t l y) (row_back q t k (omega (arith, g, y.node_low)) h y.entry_low z) (way_next q t l y h g)

    pub fits_rule : (l : List ℕ) → m * n ≤ length l → Ending (m * n) (at m n Stage.Asking l)
    fits_rule l long =
        runs (m * n) m n l (rows m twig.some)
        (record {
          node_low = twig.some;
          node_high = omega arith;
          entry_low = tree.some;
          entry_high = omega arith;
          long = long;
          filled = none_filled n e m w twig l;
          no_yes = λ z. past l m (n + 1) (omega arith) z;
        })
      where
        rows : (m : ℕ) → 1 ≤ m → (m - 1) * n + n ≡ m * n
        rows zero h = absurd (omega arith)
        rows (suc m) h = let a : suc m - 1 ≡ m = omega arith in rw a (omega arith)
