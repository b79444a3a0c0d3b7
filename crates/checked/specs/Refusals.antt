-- Which numbers the check can refuse with.
--   is_in l x, OneOf l x   x is one of the numbers of l
--   all_in, one_among      one of l is one of every list that has all of l
--   one_more              0 or one of l is so beside any other number
--   one_not               one of l is no number that l lacks
--   StepIn, turn_numbers  where each step that is refused gives one of l, each turn gives one of l
--   check_refusals k       the numbers that a check of kind k, begun fresh, refuses with
--   length_numbers        what a length gives: 0, 1 or 7
--   check_numbers_law         what a turn of the check from any state gives: 0, 9 or one of these
--   whole_numbers         what the whole check gives: 0 or one of these
--   whole_not_ten         so it never gives 10
--   chain_numbers         and no chain of turns from the fresh state is refused with another number; roots_numbers is an instance
use Rattle.std.specs.Prelude.{ℕ, zero, suc, ◌+◌, ◌-◌, ◌*◌, ◌/◌, ◌%◌, ◌≡◌, Bool, ◌&&◌, ◌||◌, List, [], ◌∷◌, length, leb, ltb}
use Rattle.std.proofs.Math.Path.{refl}
use Rattle.std.proofs.Common.{ap, ◌∙◌, sym, subst, arith, eqb-true}
use Rattle.std.proofs.Math.Bool.{true, false}
use Rattle.std.proofs.lemmas.Bool.{false≢true, eqb-false}
use Rattle.std.proofs.Math.Decide.{ℕ_discrete}
use Rattle.std.proofs.Math.Dec.{eqb}
use Rattle.turns.specs.Pick.{pick}
use Rattle.turns.specs.Turn.{Next, moved, answered, refused, Turned, turn, Moves, Outcome, ended, spent, told, faulty}
use Rattle.turns.specs.Laws.{turn_outcome}
use Rattle.trees.specs.Signature.{Entries, entries_of, width, entries}
use Rattle.terms.specs.declared.Kind.{Kind}
use Rattle.checking.specs.declared.CheckState.{CheckState}
use Rattle.terms.specs.declared.Refusal.{Refusal}
use Rattle.terms.specs.declared.Stop.{Stop}
use Rattle.terms.specs.Kinds.{any_name, most}
use Rattle.checking.specs.Rule.{fresh, step_of, close_of, closed_of, open_of, accepted, nameless, second_root, in_range}
use Rattle.terms.specs.Stops.{Told, halt_told}
use Rattle.checking.specs.Turn.{run_of, refused_at, turn_within, turn_of}
use Rattle.terms.specs.Length.{length_fault}
use Rattle.checking.specs.Whole.{whole_of}
use Rattle.checking.proofs.Cases.{fresh_ranges}
use Rattle.checking.proofs.Runs.{turn_length}
use Rattle.checked.specs.Menus.{two_roots}
use Rattle.checked.specs.Yields.{Turns}
use Rattle.checked.specs.Chained.{Fits, turn_is}
use Rattle.checked.specs.Public.{Open, Depth, fresh_depth, moves_depth, chain_verdict}
use Rattle.terms.specs.declared.Turn.{Turn}

-- ---- one of these numbers

-- whether x is among the numbers of l
abbrev pub is_in : List ℕ → ℕ → Bool
is_in [] x = false
is_in (a ∷ l) x = eqb x a || is_in l x

-- x is one of the numbers of l
abbrev pub OneOf : List ℕ → ℕ → Type 0
OneOf l x = is_in l x ≡ true

pub one_not : (l : List ℕ) (x y : ℕ) → OneOf l x → is_in l y ≡ false → x ≡ y → ⊥
one_not l x y p q e = false≢true (sym q ∙ sym (ap (is_in l) e) ∙ p)

-- whether m has all the numbers of l
abbrev pub all_in : List ℕ → List ℕ → Bool
all_in [] m = true
all_in (a ∷ l) m = is_in m a && all_in l m

pub one_among : (l m : List ℕ) → all_in l m ≡ true → (x : ℕ) → OneOf l x → OneOf m x
one_among [] m h x p = absurd (false≢true p)
one_among (a ∷ l) m h x p = go (eqb x a) (is_in m a) refl refl h p (λ q. one_among l m q x)
  where
    go : (c d : Bool) → eqb x a ≡ c → is_in m a ≡ d → (d && all_in l m) ≡ true → (c || is_in l x) ≡ true
        → (all_in l m ≡ true → OneOf l x → OneOf m x) → OneOf m x
    go true true e f q r ih = ap (is_in m) (eqb-true x a e) ∙ f
    go true false e f q r ih = absurd (false≢true q)
    go false true e f q r ih = ih q r
    go false false e f q r ih = absurd (false≢true q)

-- 0 or one of l is so beside any other number
pub one_more : (a : ℕ) (l : List ℕ) (x : ℕ) → OneOf (0 ∷ l) x → OneOf (0 ∷ a ∷ l) x
one_more a l x = go (eqb x 0) (eqb x a) (is_in l x)
  where
    go : (b c d : Bool) → (b || d) ≡ true → (b || (c || d)) ≡ true
    go true c d p = refl
    go false true d p = refl
    go false false d p = p

-- ---- turns of any rule

-- a step that is refused gives one of l
abbrev pub StepIn : {S : Type 0} → List ℕ → Next S → Type 0
StepIn l (moved to) = Unit {0}
StepIn l (answered to) = Unit {0}
StepIn l (refused number entry) = OneOf l number

pub turn_numbers : (S : Type 0) (finished : S → Bool) (step : S → Next S) (l : List ℕ) → OneOf l 0 → (st : S)
    → ((j : ℕ) (to : S) → Moves S finished step j st to → StepIn l (step to)) → (b : ℕ)
    → OneOf l (halt_told (turn S finished step b st).halt).number
turn_numbers S finished step l z st h b = by (turn_outcome S finished step b st)
  where
    by : {t : Turned S} → Outcome S finished step b st t → OneOf l (halt_told t.halt).number
    by (ended m k f) = z
    by (spent m f) = z
    by (told m k f x) = z
    by (faulty {k = j} {to = to} m k f x) = subst (StepIn l) x (h j to m)

-- ---- the check

-- 1 and 7 by the length, 3 by a name, which a twig need not have, 4 to 6 by an entry
abbrev pub check_refusals : Kind → List ℕ
check_refusals Kind.Data = 1 ∷ 3 ∷ 4 ∷ 5 ∷ 6 ∷ 7 ∷ []
check_refusals Kind.Twig = 1 ∷ 4 ∷ 5 ∷ 6 ∷ 7 ∷ []

pub length_numbers : (most w l : ℕ) → OneOf (0 ∷ 1 ∷ 7 ∷ []) (length_fault most w l)
unfolding length_fault
length_numbers most w l = by (eqb l 0) (eqb (l % w) 0) (leb (l / w) most)
  where
    by : (e m s : Bool) → OneOf (0 ∷ 1 ∷ 7 ∷ []) (pick e 1 (pick m (pick s 0 7) 1))
    by true m s = refl
    by false true true = refl
    by false true false = refl
    by false false s = refl

-- rules 3 and 4, and then the whole step, by what allows 9 and 3
module _ (l : List ℕ) (four : OneOf l 4) (five : OneOf l 5) (six : OneOf l 6) (e : Entries) (st : CheckState) where
  close_numbers : ((st.top.0 ≡ 0 → ⊥) → st.closed.0 ≡ st.next.0 - 1 → OneOf l 9) → StepIn l (close_of e st)
  unfolding close_of
  close_numbers nine =
      by (eqb st.top.0 0) (eqb st.closed.0 (st.next.0 - 1)) (eqb (e.post st.top.0) (st.closed.0 + 1))
      (eqb (e.ff st.top.0) st.next.0) (ltb (e.fa st.top.0) st.top.0) refl refl
    where
      by : (a b c d f : Bool) → eqb st.top.0 0 ≡ a → eqb st.closed.0 (st.next.0 - 1) ≡ b
          → StepIn l (pick a (refused 4 st.next.0) (pick b (refused 9 0) (pick c
          (pick d (pick f (moved (closed_of e st)) (refused 4 st.top.0)) (refused 6 st.top.0)) (refused 5 st.top.0))))
      by true b c d f p q = four
      by false true c d f p q = nine (eqb-false _ _ p) (eqb-true _ _ q)
      by false false true true true p q = tt
      by false false true true false p q = four
      by false false true false f p q = six
      by false false false d f p q = five

  step_numbers : (any : Bool) (n : ℕ) → (nameless any e st.next.0 ≡ true → OneOf l 3) → StepIn l (close_of e st) → StepIn l (step_of any n e st)
  unfolding step_of
  step_numbers any n three closing =
      by (leb st.next.0 n) (nameless any e st.next.0) (leb st.next.0 (e.fa st.next.0))
      (second_root st.next.0 (e.fa st.next.0)) (eqb (e.fa st.next.0) st.top.0) (close_of e st) refl closing
    where
      by : (a b c d f : Bool) (x : Next CheckState) → nameless any e st.next.0 ≡ b → StepIn l x
          → StepIn l (pick a (pick b (refused 3 st.next.0) (pick c (refused 4 st.next.0) (pick d (refused 4 st.next.0)
          (pick f (moved (open_of st)) x)))) x)
      by false b c d f x p q = q
      by true true c d f x p q = three p
      by true false true d f x p q = four
      by true false false true f x p q = four
      by true false false false true x p q = tt
      by true false false false false x p q = q

-- what each kind refuses with
three_given : (k : Kind) (e : Entries) (i : ℕ) → nameless (any_name k) e i ≡ true → OneOf (check_refusals k) 3
unfolding nameless
three_given Kind.Data e i h = refl
three_given Kind.Twig e i h = absurd (false≢true h)

four_given : (k : Kind) → OneOf (check_refusals k) 4
four_given Kind.Data = refl
four_given Kind.Twig = refl

five_given : (k : Kind) → OneOf (check_refusals k) 5
five_given Kind.Data = refl
five_given Kind.Twig = refl

six_given : (k : Kind) → OneOf (check_refusals k) 6
six_given Kind.Data = refl
six_given Kind.Twig = refl

length_given : (k : Kind) → all_in (0 ∷ 1 ∷ 7 ∷ []) (0 ∷ check_refusals k) ≡ true
length_given Kind.Data = refl
length_given Kind.Twig = refl

module _ (k : Kind) (s : List ℕ) where
  abbrev step : CheckState → Next CheckState
  step st = step_of (any_name k) (entries s) (entries_of width s) st

  abbrev done : CheckState → Bool
  done st = accepted (entries s) st

  -- the length's number, or 0
  abbrev fault : ℕ
  fault = length_fault (most k) width (length s)

  by_length : OneOf (0 ∷ check_refusals k) fault
  by_length = one_among (0 ∷ 1 ∷ 7 ∷ []) (0 ∷ check_refusals k) (length_given k) fault (length_numbers (most k) width (length s))

  -- ---- a turn from any state

  step_any : (st : CheckState) → StepIn (0 ∷ 9 ∷ check_refusals k) (step st)
  step_any st =
      step_numbers (0 ∷ 9 ∷ check_refusals k) (four_given k) (five_given k) (six_given k) (entries_of width s) st (any_name k) (entries s)
      (three_given k (entries_of width s) st.next.0)
      (close_numbers (0 ∷ 9 ∷ check_refusals k) (four_given k) (five_given k) (six_given k) (entries_of width s) st (λ p q. refl))

  pub check_numbers_law : (b : ℕ) (st : CheckState) → OneOf (0 ∷ 9 ∷ check_refusals k) (halt_told (turn_of k s b st).halt).number
  unfolding turn_within
  check_numbers_law b st = by (eqb fault 0) (in_range (entries s) st)
    where
      by : (fits ranged : Bool) → OneOf (0 ∷ 9 ∷ check_refusals k)
          (halt_told (pick fits (pick ranged (run_of (any_name k) (entries s) (entries_of width s) b st) (refused_at st 9)) (refused_at st fault)).halt).number
      by true true = turn_numbers CheckState done step (0 ∷ 9 ∷ check_refusals k) refl st (λ j to m. step_any to) b
      by true false = refl
      by false ranged = one_more 9 (check_refusals k) fault by_length

  -- ---- a check begun fresh

  -- where all but the next entry are closed none is open, so rule 3 comes before a 9
  none_open : (st : CheckState) → Depth k s st → st.closed.0 ≡ st.next.0 - 1 → st.top.0 ≡ 0
  none_open st d q = go d.held d.chain (omega (arith, d.count, q))
    where
      go : (i : ℕ) → Open k s i st.top.0 → i ≡ 0 → st.top.0 ≡ 0
      go zero c e = c
      go (suc i) c e = absurd (omega arith)

  step_fresh : (j : ℕ) (st : CheckState) → Moves CheckState done step j fresh st → StepIn (0 ∷ check_refusals k) (step st)
  step_fresh j st m =
      step_numbers (0 ∷ check_refusals k) (four_given k) (five_given k) (six_given k) (entries_of width s) st (any_name k) (entries s)
      (three_given k (entries_of width s) st.next.0)
      (close_numbers (0 ∷ check_refusals k) (four_given k) (five_given k) (six_given k) (entries_of width s) st
      (λ p q. absurd (p (none_open st (moves_depth k s (fresh_depth k s) m) q))))

  pub whole_numbers : OneOf (0 ∷ check_refusals k) (whole_of k s).number
  whole_numbers = by (ℕ_discrete fault 0)
    where
      Gives : Turned CheckState → Type 0
      Gives t = OneOf (0 ∷ check_refusals k) (halt_told t.halt).number

      by : Dec (fault ≡ 0) → Gives (turn_of k s (2 * most k + 1) fresh)
      by (no h) = subst Gives (sym (turn_length (any_name k) (most k) s (2 * most k + 1) fresh h)) by_length
      by (yes f) =
          subst Gives (sym (turn_is k s f (2 * most k + 1) fresh (fresh_ranges (entries s))))
          (turn_numbers CheckState done step (0 ∷ check_refusals k) refl fresh step_fresh (2 * most k + 1))

  pub whole_not_ten : (whole_of k s).number ≡ 10 → ⊥
  whole_not_ten = one_not (0 ∷ check_refusals k) (whole_of k s).number 10 whole_numbers (lacks k)
    where
      lacks : (j : Kind) → is_in (0 ∷ check_refusals j) 10 ≡ false
      lacks Kind.Data = refl
      lacks Kind.Twig = refl

  -- 9 is not among them: "a check begun fresh whose state nobody altered" never meets it
  pub chain_numbers : Fits k s → {B K : ℕ} {r : Turn CheckState} → Turns k s fresh B K r → (x : Refusal) → r.stop ≡ Stop.Refused x
      → OneOf (0 ∷ check_refusals k) x.number
  chain_numbers f c x e = subst (OneOf (0 ∷ check_refusals k)) (sym (ap (λ (t : Told). t.number) (chain_verdict k s f c x e))) whole_numbers

-- ---- used once: entries 5,2,3,0; 5,1,3,0

roots_fit : Fits Kind.Data two_roots
unfolding length_fault
roots_fit = refl

pub roots_numbers : {B K : ℕ} {r : Turn CheckState} → Turns Kind.Data two_roots fresh B K r → (x : Refusal) → r.stop ≡ Stop.Refused x → x.number ≡ 9 → ⊥
roots_numbers c x e = one_not (0 ∷ check_refusals Kind.Data) x.number 9 (chain_numbers Kind.Data two_roots roots_fit c x e) refl
