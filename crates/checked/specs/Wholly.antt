-- The whole check, over its promise: accepted exactly if a tree yields the list; and what an accepted signature gives the layers above.
--   accepted_exactly    chains of public turns: the end is reported exactly if a tree yields the list
--   check_two_n         and by then the returned steps add up to 2×n
--   yields_accepted     the whole check accepts what a tree yields
--   whole_exactly       the whole check accepts exactly if a tree yields the list
--   accepted_reason, refused_reason   the reason that the whole check's numbers give is 1 where it accepts, and another where it refuses
--   accepted_tree       an accepted signature has a tree, with its facts: the one interface for later layers
--   tree_unique         the tree is unique
use Rattle.std.specs.Prelude.{ℕ, ◌+◌, ◌*◌, ◌≤◌, ◌≡◌, refl, ◌⊎◌, true, false, List, eqb, Ok, Err}
use Rattle.std.proofs.Common.{ap, ◌∙◌, sym, subst, inl, inr, arith}
use Rattle.turns.specs.Turn.{Halt, Turned}
use Rattle.turns.specs.Chains.{one}
use Rattle.trees.specs.Tree.{Tree, whole}
use Rattle.trees.specs.Signature.{entries_of, width, entries}
use Rattle.trees.specs.Unique.{signature_unique}
use Rattle.terms.specs.declared.Kind.{Kind}
use Rattle.checking.specs.declared.CheckState.{CheckState}
use Rattle.terms.specs.declared.Stop.{Stop}
use Rattle.terms.specs.declared.Refusal.{Refusal}
use Rattle.terms.specs.Kinds.{any_name, most}
use Rattle.checking.specs.Rule.{fresh}
use Rattle.terms.specs.Stops.{Told, told, Verdict, Handed}
use Rattle.checking.specs.Turn.{turn_of}
use Rattle.checking.specs.Whole.{whole_of, WholePromise}
use Rattle.checked.specs.Yields.{Words, Yields, Exactly, Ended, Turns}
use Rattle.checked.specs.Apart.{stop_of, halt_told_law, verdict_apart, told_stop}
use Rattle.checked.specs.Accepted.{TreeOf, tree_of, Sound, chain_sound, accepted_sound, Came, chain_complete}
use Rattle.checked.specs.Walked.{Fine}
use Rattle.terms.specs.declared.Turn.{Turn}

-- what the code hands back for a turn of the rule
abbrev pub handed : Turned CheckState → Turn CheckState
handed t = record { state = t.state; steps = t.steps; stop = stop_of t.halt }

pub handed_is : (t : Turned CheckState) → Handed (handed t) t
handed_is t = record { state = refl; steps = refl; stop = told_stop t.halt }

module _ (k : Kind) (s : List ℕ) where
  -- ---- chains of public turns

  -- demand 2: turns report the end only if a tree yields the list, and where they may spend 2×n steps in all they do if one does
  pub accepted_exactly : {B K : ℕ} {r : Turn CheckState} → Words s → Turns k s fresh B K r → Ended k s B (r.stop ≡ Stop.End)
  accepted_exactly {B} {K} {r} w c = record { sound = λ h. (accepted_sound k s w c h).0; complete = λ b y. go b y (chain_complete k s y c) }
    where
      go : 2 * entries s ≤ B → (y : Yields k s) → Came k s y B K r → r.stop ≡ Stop.End
      go b y (inl q) = q.stop
      go b y (inr q) = absurd (omega (arith, q.short, b))

  -- demand 3: where the end is reported, the steps add up to 2×n
  pub check_two_n : {B K : ℕ} {r : Turn CheckState} → Turns k s fresh B K r → r.stop ≡ Stop.End → K ≡ 2 * entries s
  check_two_n c h = (chain_sound k s c h).steps

  -- a tree's signature is never refused, whatever the budgets
  pub never_refused : {B K : ℕ} {r : Turn CheckState} → Yields k s → Turns k s fresh B K r → (r.stop ≡ Stop.End) ⊎ (r.stop ≡ Stop.Budget)
  never_refused {B} {K} {r} y c = go (chain_complete k s y c)
    where
      go : Came k s y B K r → (r.stop ≡ Stop.End) ⊎ (r.stop ≡ Stop.Budget)
      go (inl q) = inl q.stop
      go (inr q) = inr q.stop

  -- ---- the whole check

  -- the whole check is a chain of one turn
  whole_turn : Turns k s fresh (2 * most k + 1) (turn_of k s (2 * most k + 1) fresh).steps (handed (turn_of k s (2 * most k + 1) fresh))
  whole_turn = one (handed_is (turn_of k s (2 * most k + 1) fresh))

  whole_end : WholePromise k s (Ok tt) → (handed (turn_of k s (2 * most k + 1) fresh)).stop ≡ Stop.End
  whole_end p = ap stop_of (sym (halt_told_law Halt.end (turn_of k s (2 * most k + 1) fresh).halt p))

  pub whole_sound : WholePromise k s (Ok tt) → Sound k s (turn_of k s (2 * most k + 1) fresh).steps
  whole_sound p = chain_sound k s whole_turn (whole_end p)

  -- an accepted signature: the tree, and its facts for every call above
  pub record AcceptedTree : Type 0 where
    pub tree : Tree
    pub of : TreeOf s tree
    pub named : Fine (any_name k) (entries_of width s) (whole tree) 1 0
    pub small : entries s ≤ most k

  pub accepted_tree : WholePromise k s (Ok tt) → AcceptedTree
  accepted_tree p = let x = whole_sound p in record { tree = x.tree; of = x.read; named = x.named; small = x.small }

  -- the whole check accepts what a tree yields
  pub yields_accepted : Yields k s → WholePromise k s (Ok tt)
  yields_accepted y = ap told (sym (ended (chain_complete k s y whole_turn))) ∙ told_stop (turn_of k s (2 * most k + 1) fresh).halt
    where
      ended : Came k s y (2 * most k + 1) (turn_of k s (2 * most k + 1) fresh).steps (handed (turn_of k s (2 * most k + 1) fresh))
          → (handed (turn_of k s (2 * most k + 1) fresh)).stop ≡ Stop.End
      ended (inl q) = q.stop
      ended (inr q) = absurd (omega (arith, q.short, (tree_of s y.tree y.is).count, y.grown.small))

  -- demand 2 of the whole check
  pub whole_exactly : Words s → (v : Verdict) → WholePromise k s v → Exactly k s (v ≡ Ok tt)
  whole_exactly w v p = record {
    sound = λ h. (accepted_sound k s w whole_turn (whole_end (subst (WholePromise k s) h p))).0;
    complete = λ y. verdict_apart v (Ok tt) (p ∙ sym (yields_accepted y));
  }

  -- a verdict by its reason, which is what the calls that check first ask for
  pub accepted_reason : WholePromise k s (Ok tt) → eqb (whole_of k s).reason 1 ≡ true
  accepted_reason p = ap (λ (t : Told). eqb t.reason 1) (sym p)

  pub refused_reason : (x : Refusal) → WholePromise k s (Err x) → eqb (whole_of k s).reason 1 ≡ false
  refused_reason x p = ap (λ (t : Told). eqb t.reason 1) (sym p)

-- the tree is unique
pub tree_unique : (k : Kind) (s : List ℕ) (a b : Yields k s) → a.tree ≡ b.tree
tree_unique k s a b = signature_unique a.tree b.tree (sym a.is ∙ b.is)
