-- Turns on bare numbers may be cut anywhere: a call that may spend a + b steps is one of a and then one of b on the numbers that it left, unless it stopped.
--   Cut a y r       the call that gave r returned and left what the one that gave y did, after a steps more
--   Same r x        two calls returned and left the same
--   check_cut, prepare_cut, walk_cut, fits_cut      stopped by its budget, a call and the one after it are one call
--   check_kept, prepare_kept, walk_kept, fits_kept   stopped by anything else, a larger budget changes nothing
-- They are used once on Ten and Five, in `Tried` and `TriedFits`.
use Rattle.std.specs.Prelude.{ℕ, ◌+◌, ◌≡◌, List, [], ◌∷◌, get_or}
use Rattle.std.proofs.Common.{ap, ◌∙◌, sym, subst}
use Rattle.turns.specs.Turn.{Turned}
use Rattle.checking.specs.declared.CheckState.{CheckState}
use Rattle.terms.specs.declared.Stop.{Stop}
use Rattle.terms.specs.Stops.{Told, told, halt_told}
use Rattle.checking.specs.Turn.{turn_of}
use Rattle.checked.specs.Apart as apart
use Rattle.checked.specs.Apart.{stop_of, told_stop}
use Rattle.checked.specs.Public as checked
use Rattle.checked.specs.Wholly.{handed, handed_is}
use Rattle.preparing.specs.Preparing.{Preparing}
use Rattle.preparing.specs.PrepTurn.{prep_at, underway, prep_turn_of}
use Rattle.walking.specs.declared.Walk.{Walk}
use Rattle.walking.specs.WalkTurn.{walk_turn_of}
use Rattle.fits_rows.specs.Fitting.{Fitting}
use Rattle.fits.specs.FitTurn.{fitting, fit_of, fit_turn_of}
use Rattle.fits_laws.specs.Public as fits
use Rattle.fits_laws.specs.Public.{shown, back_of, back_handed}
use Rattle.loose_turns.specs.Prepared as prepared
use Rattle.loose_turns.specs.Walked as walked
use Rattle.listed.specs.Cases.{prep_back, prep_handed, walk_back, walk_handed}
use Rattle.terms.specs.Kinds.{kind_of}
use Rattle.telling.specs.Numbers.{out_of, TurnTold}
use Rattle.telling.specs.States.{check_state_of, check_numbers}
use Rattle.telling.specs.Walk.{walk_of, kept_of}
use Rattle.telling.specs.Fits.{fit_state_of, kept_of as kept_fit}
use Rattle.signature_calls.specs.Check.{CheckLeft, CheckTurnPromise}
use Rattle.twig_calls.specs.Fits.{FitLeft}
use Rattle.twig_calls.specs.Prepare.{PrepareLeft}
use Rattle.twig_calls.specs.Walk.{WalkLeft, WalkTurnPromise}
use Rattle.calls_told.specs.Back.{full, walk_saved, fit_saved, kept_again}
use Rattle.calls_told.specs.Chains.{Called, stop_number, steps, reason_budget}
use Rattle.calls_told.specs.Prepares.{Given, PrepCalled, again, Promised}
use Rattle.calls_told.specs.Walks.{said}
use Rattle.calls_told.specs.Fits as asks
use Rattle.calls_told.specs.Fits.{Asked, FitCalled}

-- the same number returned, numbers left and stop told, after a steps more
pub record Cut (a : ℕ) (y r : Called) : Type 0 where
  pub number : r.number ≡ y.number
  pub left : r.left ≡ y.left
  pub out : r.out ≡ stop_number y ∷ (a + steps y) ∷ get_or y.out 2 0 ∷ []

-- the same number returned, numbers left and out
pub record Same (r x : Called) : Type 0 where
  pub number : r.number ≡ x.number
  pub left : r.left ≡ x.left
  pub out : r.out ≡ x.out

-- the same turn, with a steps taken before it
abbrev added : {S : Type 0} → ℕ → Turned S → Turned S
added a t = record { state = t.state; steps = a + t.steps; halt = t.halt }

-- ---- what a turn tells of itself

module _ {S : Type 0} where
  -- the call that gave x tells the turn t
  abbrev Tells : Turned S → Called → Type 0
  Tells t x = TurnTold (halt_told t.halt) t.steps x.number x.out

  reason_is : (t : Turned S) (x : Called) → Tells t x → (told (stop_of t.halt)).reason ≡ stop_number x
  reason_is t x p = ap (λ (z : Told). z.reason) (told_stop t.halt) ∙ sym (ap (λ (o : List ℕ). get_or o 0 0) p.out_is)

  -- out[0] is 2 exactly if the budget stopped it
  spent : (t : Turned S) (x : Called) → Tells t x → stop_number x ≡ 2 → stop_of t.halt ≡ Stop.Budget
  spent t x p h = reason_budget (stop_of t.halt) (reason_is t x p ∙ h)

  unspent : (t : Turned S) (x : Called) → Tells t x → (stop_number x ≡ 2 → ⊥) → stop_of t.halt ≡ Stop.Budget → ⊥
  unspent t x p n e = n (sym (reason_is t x p) ∙ ap (λ (z : Stop). (told z).reason) e)

  cut_told : (a : ℕ) (t u : Turned S) (y r : Called) → t ≡ added a u → Tells u y → Tells t r → r.left ≡ y.left → Cut a y r
  cut_told a t u y r e q p l = record {
    number = p.number_is ∙ ap (λ (z : Turned S). (halt_told z.halt).number) e ∙ sym q.number_is;
    left = l;
    out = p.out_is ∙ ap (λ (z : Turned S). out_of (halt_told z.halt) z.steps) e
        ∙ ap (λ (o : List ℕ). get_or o 0 0 ∷ (a + get_or o 1 0) ∷ get_or o 2 0 ∷ []) (sym q.out_is);
  }

  same_told : (t u : Turned S) (r x : Called) → t ≡ u → Tells t r → Tells u x → r.left ≡ x.left → Same r x
  same_told t u r x e p q l = record {
    number = p.number_is ∙ ap (λ (z : Turned S). (halt_told z.halt).number) e ∙ sym q.number_is;
    left = l;
    out = p.out_is ∙ ap (λ (z : Turned S). out_of (halt_told z.halt) z.steps) e ∙ sym q.out_is;
  }

-- ---- the check

module _ (k : ℕ) (s : List ℕ) (a b : ℕ) (l : List ℕ) (x r : Called) (p : CheckTurnPromise k s a l x.number x.left x.out)
    (o : CheckTurnPromise k s (a + b) l r.number r.left r.out) where
  abbrev T : ℕ → CheckState → Turned CheckState
  T c st = turn_of (kind_of k) s c st

  abbrev X : Turned CheckState
  X = T a (check_state_of l)

  abbrev R : Turned CheckState
  R = T (a + b) (check_state_of l)

  is : (t : Turned CheckState) → apart.turned_of (handed t) ≡ t
  is t = apart.handed_turned (handed t) t (handed_is t)

  -- stopped by its budget, a call and the one after it are one call
  pub check_cut : (y : Called) → stop_number x ≡ 2 → CheckTurnPromise k s b x.left y.number y.left y.out → Cut a y r
  check_cut y h q =
      let Y = T b X.state in
      let w = subst (λ (st : CheckState). CheckLeft (T b st) y.number y.left y.out) (ap check_state_of p.state) q in
      let e = sym (is R)
      ∙ ap apart.turned_of (checked.cut_anywhere (kind_of k) s a b (check_state_of l) (handed X) (handed Y) (handed R) (handed_is X)
      (spent X x p.says h) (handed_is Y) (handed_is R))
      ∙ ap (added a) (is Y) in
      cut_told a R Y y r e w.says o.says (o.state ∙ ap (λ (t : Turned CheckState). check_numbers t.state) e ∙ sym w.state)

  -- stopped by anything else, a larger budget changes nothing
  pub check_kept : (stop_number x ≡ 2 → ⊥) → Same r x
  check_kept n =
      let e = sym (is R)
      ∙ ap apart.turned_of (checked.cut_kept (kind_of k) s a b (check_state_of l) (handed X) (handed R) (handed_is X)
      (unspent X x p.says n) (handed_is R))
      ∙ is X in
      same_told R X r x e o.says p.says (o.state ∙ ap (λ (t : Turned CheckState). check_numbers t.state) e ∙ sym p.state)

-- ---- preparing

module _ (s tw : List ℕ) (a b : ℕ) (g : Given) (x r : PrepCalled) (p : Promised s tw a g x) (o : Promised s tw (a + b) g r) where
  abbrev PT : ℕ → Preparing → Turned Preparing
  PT c st = prep_turn_of s tw c st

  abbrev from : Preparing
  from = underway (get_or g.numbers 0 0) g.table

  abbrev PX : Turned Preparing
  PX = PT a from

  abbrev PR : Turned Preparing
  PR = PT (a + b) from

  prep_is : (t : Turned Preparing) → prepared.turned_of (prep_back t).turn (prep_back t).left ≡ t
  prep_is t = prepared.handed_turned (prep_back t).turn (prep_back t).left t (prep_handed t)

  pub prepare_cut : (y : PrepCalled) → stop_number x.called ≡ 2 → Promised s tw b (again x) y
      → Cut a y.called r.called × (r.table ≡ y.table)
  prepare_cut y h q =
      let Y = PT b PX.state in
      let m = p.now_at in
      let n = p.left in
      let w = subst (λ (st : Preparing). PrepareLeft (PT b st) y.called.number y.table y.called.left y.called.out)
      (λ i. underway (get_or (m i) 0 0) (n i)) q in
      let e = sym (prep_is PR)
      ∙ prepared.cut_anywhere s tw a b g.table (prep_at (get_or g.numbers 0 0)) (prep_back PX).turn (prep_back PR).turn (prep_back PX).left
      (prep_back PR).left (prep_handed PX) (prep_handed PR) (prep_back Y).turn (prep_back Y).left (spent PX x.called p.says h) (prep_handed Y)
      ∙ ap (added a) (prep_is Y) in (
        cut_told a PR Y y.called r.called e w.says o.says
            (o.now_at ∙ ap (λ (t : Turned Preparing). t.state.next ∷ []) e ∙ sym w.now_at),
        o.left ∙ ap (λ (t : Turned Preparing). t.state.table) e ∙ sym w.left,
      )

  pub prepare_kept : (stop_number x.called ≡ 2 → ⊥) → Same r.called x.called × (r.table ≡ x.table)
  prepare_kept n =
      let e = sym (prep_is PR)
      ∙ prepared.cut_kept s tw a b g.table (prep_at (get_or g.numbers 0 0)) (prep_back PX).turn (prep_back PR).turn (prep_back PX).left
      (prep_back PR).left (prep_handed PX) (prep_handed PR) (unspent PX x.called p.says n)
      ∙ prep_is PX in (
        same_told PR PX r.called x.called e o.says p.says
            (o.now_at ∙ ap (λ (t : Turned Preparing). t.state.next ∷ []) e ∙ sym p.now_at),
        o.left ∙ ap (λ (t : Turned Preparing). t.state.table) e ∙ sym p.left,
      )

-- ---- the walk

module _ (s tw table : List ℕ) (a b : ℕ) (l : List ℕ) (x r : Called) (p : WalkTurnPromise s tw table l a x.number x.left x.out)
    (o : WalkTurnPromise s tw table l (a + b) r.number r.left r.out) where
  abbrev WT : ℕ → Walk → Turned Walk
  WT c w = walk_turn_of s tw table c w

  abbrev WX : Turned Walk
  WX = WT a (walk_of l)

  abbrev WR : Turned Walk
  WR = WT (a + b) (walk_of l)

  walk_is : (t : Turned Walk) → walked.turned_of (walk_back t) ≡ t
  walk_is t = walked.handed_turned (walk_back t) t (walk_handed t)

  pub walk_cut : (y : Called) → stop_number x ≡ 2 → WalkTurnPromise s tw table x.left b y.number y.left y.out → Cut a y r
  walk_cut y h q =
      let Y = WT b WX.state in
      let w = subst (λ (v : Walk). WalkLeft (WT b v) x.left y.number y.left y.out) (said s tw table a l x p).reads q in
      let e = sym (walk_is WR)
      ∙ walked.cut_anywhere s tw table a b (walk_of l) (full l) (walk_back WX) (walk_back WR) (walk_handed WX) (walk_handed WR) (walk_back Y)
      (spent WX x p.says h) (walk_handed Y)
      ∙ ap (added a) (walk_is Y) in
      cut_told a WR Y y r e w.says o.says
      (o.now_at ∙ ap (λ (t : Turned Walk). kept_of l t.state) e ∙ sym (w.now_at ∙ kept_again walk_saved l x.left WX.state Y.state p.now_at))

  pub walk_kept : (stop_number x ≡ 2 → ⊥) → Same r x
  walk_kept n =
      let e = sym (walk_is WR)
      ∙ ap walked.turned_of (walked.cut_kept s tw table a b (walk_of l) (full l) (walk_back WX) (walk_back WR) (walk_handed WX) (walk_handed WR)
      (unspent WX x p.says n))
      ∙ walk_is WX in
      same_told WR WX r x e o.says p.says (o.now_at ∙ ap (λ (t : Turned Walk). kept_of l t.state) e ∙ sym p.now_at)

-- ---- the ordered question

module _ (s tw : List ℕ) (a b : ℕ) (g : Asked) (x r : FitCalled) (p : asks.Promised s tw a g x) (o : asks.Promised s tw (a + b) g r) where
  abbrev FT : ℕ → Fitting → Turned Fitting
  FT c st = fit_turn_of s tw c st

  abbrev asked : Fitting
  asked = fitting (fit_state_of g.numbers) g.room

  abbrev FX : Turned Fitting
  FX = FT a asked

  abbrev FR : Turned Fitting
  FR = FT (a + b) asked

  fit_is : (t : Turned Fitting) → fits.turned_of (back_of t).turn (back_of t).left ≡ shown t
  fit_is t = fits.handed_turned (back_of t).turn (back_of t).left t (back_handed t)

  pub fits_cut : (y : FitCalled) → stop_number x.called ≡ 2 → asks.Promised s tw b (asks.again x) y
      → Cut a y.called r.called × (r.room ≡ y.room)
  fits_cut y h q =
      let Y = FT b FX.state in
      let m = (asks.said s tw a g x p).reads in
      let n = (asks.said s tw a g x p).leaves in
      let w = subst (λ (st : Fitting). FitLeft (FT b st) x.called.left y.called.number y.room y.called.left y.called.out)
      (λ i. fitting (m i) (n i)) q in
      let e = sym (fit_is FR)
      ∙ fits.cut_anywhere s tw a b g.room (fit_state_of g.numbers) (back_of FX).turn (back_of FR).turn (back_of FX).left (back_of FR).left
      (back_handed FX) (back_handed FR) (back_of Y).turn (back_of Y).left (spent (shown FX) x.called p.says h) (back_handed Y)
      ∙ ap (added a) (fit_is Y) in (
        cut_told a (shown FR) (shown Y) y.called r.called e w.says o.says
            (o.now_at ∙ ap (λ (t : Turned Fitting). kept_fit g.numbers (fit_of t.state)) e
            ∙ sym (w.now_at ∙ kept_again fit_saved g.numbers x.called.left (fit_of FX.state) (fit_of Y.state) p.now_at)),
        o.left ∙ ap (λ (t : Turned Fitting). t.state.room) e ∙ sym w.left,
      )

  pub fits_kept : (stop_number x.called ≡ 2 → ⊥) → Same r.called x.called × (r.room ≡ x.room)
  fits_kept n =
      let e = sym (fit_is FR)
      ∙ fits.cut_kept s tw a b g.room (fit_state_of g.numbers) (back_of FX).turn (back_of FR).turn (back_of FX).left (back_of FR).left
      (back_handed FX) (back_handed FR) (unspent (shown FX) x.called p.says n)
      ∙ fit_is FX in (
        same_told (shown FR) (shown FX) r.called x.called e o.says p.says
            (o.now_at ∙ ap (λ (t : Turned Fitting). kept_fit g.numbers (fit_of t.state)) e ∙ sym p.now_at),
        o.left ∙ ap (λ (t : Turned Fitting). t.state.room) e ∙ sym p.left,
      )
