-- The verdict of a chain of public turns in other words: in those of the two trees, and beside the ordered call.
--   Mapped         a map of document 01 from the twig's elements to those of the data tree
--   fits_maps      yes exactly if such a map exists
--   fits_agrees    yes exactly if the ordered call gives an answer above zeros, no exactly if it gives none
use Rattle.std.specs.Prelude.{ℕ, ◌≤◌, ◌≡◌, refl, ◌↔◌, List, length, replicate, Ok}
use Rattle.std.proofs.Common.{ap, sym, ◌∙◌, arith}
use Rattle.trees.specs.Signature.{entries_of, width, entries}
use Rattle.walks.specs.Maps.{Lists}
use Rattle.terms.specs.declared.Kind.{Kind}
use Rattle.terms.specs.declared.Stop.{Stop}
use Rattle.terms.specs.Stops.{Answered, answered, worked, Written}
use Rattle.checked.specs.Apart.{answered_apart}
use Rattle.checked.specs.Wholly.{accepted_tree}
use Rattle.twig_turns.specs.Grounds.{Accepted, accepted_grounds}
use Rattle.ordering.specs.Listing.{answers_exactly, above_zeros}
use Rattle.ordered.specs.Promise.{OrderedPromise}
use Rattle.ordered_calls.specs.Exactly as ordered
use Rattle.ordered_calls.specs.Calls.{zeros_fit}
use Rattle.ordered_calls.specs.OnTrees.{Ordered, ordered_maps}
use Rattle.fits.specs.FitTurn.{room_for}
use Rattle.fits_laws.specs.Questions.{FitBack, begins, FitTurns, Fits, FitsNot}
use Rattle.fits_laws.specs.Exactly.{Came, yes, no, asks, FitsExactly, fits_comes, fits_exactly}

module _ (s tw : List ℕ) (accepted : Accepted s tw) (room : List ℕ) (long : room_for s tw ≤ length room) {B K : ℕ} {r : FitBack}
    (c : FitTurns s tw (begins s tw room) B K r) where
  abbrev n : ℕ
  n = entries s

  abbrev m : ℕ
  m = entries tw

  came : Came s tw B K r
  came = fits_comes s tw accepted room long c

  exact : FitsExactly s tw accepted room long c
  exact = fits_exactly s tw accepted room long c

  -- ---- in the trees' own words, and beside the ordered call

  -- a map of document 01 from the twig's elements to those of the data tree
  abbrev pub Mapped : Type 0
  Mapped = (l : List ℕ) × Lists (accepted_tree Kind.Data s accepted.data_tree).tree (accepted_tree Kind.Twig tw accepted.twig).tree
      (Ordered (accepted_tree Kind.Data s accepted.data_tree).tree (accepted_tree Kind.Twig tw accepted.twig).tree) l

  fits_mapped : Fits s tw ↔ Mapped
  fits_mapped = (
    λ f. (
      f.0,
      (ordered_maps s tw accepted.twig accepted.data_tree f.0).0
          ((answers_exactly n (entries_of width s) m (entries_of width tw) f.0).1 f.1),
    ),
    λ g. (
      g.0,
      (answers_exactly n (entries_of width s) m (entries_of width tw) g.0).0
          ((ordered_maps s tw accepted.twig accepted.data_tree g.0).1 g.1),
    ),
  )

  pub record FitsMaps : Type 0 where
    pub yes_map : r.turn.stop ≡ Stop.Answer → Mapped
    pub no_map : r.turn.stop ≡ Stop.End → Mapped → ⊥
    pub map_yes : room_for s tw ≤ B → Mapped → r.turn.stop ≡ Stop.Answer

  pub fits_maps : FitsMaps
  fits_maps = record {
    yes_map = λ e. fits_mapped.0 (exact.yes_sound e);
    no_map = λ e g. let f = fits_mapped.1 g in exact.no_sound e f.0 f.1;
    map_yes = λ b g. exact.yes_complete b (fits_mapped.1 g);
  }

  module _ (lent : List ℕ) (enough : m ≤ length lent) (a : Written) (left : List ℕ) (p : OrderedPromise s tw (replicate m 0) lent a left) where
    -- the ordered call, beginning with zeros
    first_answer_law : (Fits s tw → a ≡ Ok m) × (FitsNot s tw → a ≡ Ok 0)
    first_answer_law = by (answered a) left refl (ordered.ordered_exactly s tw (replicate m 0) lent a left p accepted.twig accepted.data_tree (zeros_fit n m))
      where
        by : (z : Answered) (after : List ℕ) → answered a ≡ z → ordered.Meant s tw (replicate m 0) lent z after
            → (Fits s tw → a ≡ Ok m) × (FitsNot s tw → a ≡ Ok 0)
        by z after e (ordered.none h) = (
          λ f. absurd (h f.0 (record { answer = f.1; greater = above_zeros n (entries_of width s) m (entries_of width tw) (accepted_grounds s tw accepted).twig.some f.0 f.1 })),
          λ f. answered_apart a (Ok 0) e,
        )
        by z after e (ordered.least {xs = xs} h l) = (
          λ f. answered_apart a (Ok m) (e ∙ ap worked h.above.answer.nodes),
          λ f. absurd (f xs h.above.answer),
        )
        by z after e (ordered.short {xs = xs} h l) = absurd (omega (arith, l, enough, h.above.answer.nodes))

    pub record FitsAgrees : Type 0 where
      pub yes_gives : r.turn.stop ≡ Stop.Answer → a ≡ Ok m
      pub no_gives : r.turn.stop ≡ Stop.End → a ≡ Ok 0
      pub gives_yes : room_for s tw ≤ B → a ≡ Ok m → r.turn.stop ≡ Stop.Answer
      pub gives_no : room_for s tw ≤ B → a ≡ Ok 0 → r.turn.stop ≡ Stop.End

    pub fits_agrees : FitsAgrees
    fits_agrees = record {
      yes_gives = λ e. first_answer_law.0 (exact.yes_sound e);
      no_gives = λ e. first_answer_law.1 (exact.no_sound e);
      gives_yes = λ b e. by_yes b e came;
      gives_no = λ b e. by_no b e came;
    }
      where
        -- an answer has a node
        some : ◌≡◌ {A = Written} (Ok m) (Ok 0) → ⊥
        some q = let z : entries tw ≡ 0 = cc in omega (arith, z, (accepted_grounds s tw accepted).twig.some)

        by_yes : room_for s tw ≤ B → a ≡ Ok m → Came s tw B K r → r.turn.stop ≡ Stop.Answer
        by_yes b e (yes o) = o.stop
        by_yes b e (no o) = absurd (some (sym e ∙ first_answer_law.1 o.none))
        by_yes b e (asks o) = absurd (omega (arith, o.fewer))

        by_no : room_for s tw ≤ B → a ≡ Ok 0 → Came s tw B K r → r.turn.stop ≡ Stop.End
        by_no b e (yes o) = absurd (some (sym (first_answer_law.0 (o.latest.ranks, o.latest.answer)) ∙ e))
        by_no b e (no o) = o.stop
        by_no b e (asks o) = absurd (omega (arith, o.fewer))
