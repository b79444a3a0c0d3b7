-- A reader's loop: what is left of the scan at each record, and what it comes to.
--   step_passed, step_refused   one record
--   Going                       the scan from the start is what is left of it from here
--   going_…                     it begins so, goes on so, and ends or refuses so
--   scan_comes                  a scan has passed faultless records, to its end or to a faulty one
--   scan_ended                  passed to the end, a scan is at its end
use Prim.Native.Nat.{ℕ, zero, suc, ◌+◌, ◌-◌, ◌*◌, ◌≤◌, ◌<◌}
use mathlib.Core.Path.{◌≡◌, refl, ap, ◌∙◌, sym}
use mathlib.Core.Bool.{Bool, true, false}
use mathlib.Core.Logic.{◌⊎◌, inl, inr}
use native.Mathlib.Omega.{arith}
use native.Mathlib.Nat.{not-suc-le-zero}
use lib.Dec.{eqb}
use borrow.Author.Tests.{eq-eqb, ne_eqb, eqb-true, eqb-false}
use Rattle.turns.specs.Pick.{pick}
use Rattle.turns.specs.Turn.{moved, answered, refused, Halt, Turned, run, Moves, stay, move, Outcome, spent, told, faulty}
use Rattle.turns.specs.Turn as Turns
use Rattle.turns.specs.Laws.{run_end, run_refused, run_moved, turn_outcome, outcome_turn}
use Rattle.bytes_read.specs.Scans.{Scan, step_by, scan_by, halt_number}

module _ (fault : Scan → ℕ) (next : Scan → Scan) (st : Scan) where
  pub step_passed : fault st ≡ 0 → step_by fault next st ≡ moved (next st)
  unfolding step_by
  step_passed h = simp (eq-eqb _ _ h)

  pub step_refused : (fault st ≡ 0 → ⊥) → step_by fault next st ≡ refused (fault st) st.at
  unfolding step_by
  step_refused h = simp (ne_eqb _ _ h)

module _ (ended : Scan → Bool) (fault : Scan → ℕ) (next : Scan → Scan) (l : ℕ) (start : Scan) where
  abbrev rest : ℕ → ℕ → Scan → Turned Scan
  rest k j st = run Scan ended (step_by fault next) k j st

  -- what is left from st on; some steps are still paid for, and more than there are bytes
  pub record Going (st : Scan) : Type 0 where
    pub paid : ℕ
    pub taken : ℕ
    pub some : 1 ≤ paid
    pub enough : l < st.at + paid
    pub same : scan_by ended fault next l start ≡ rest paid taken st

  pub going_start : Going start
  going_start = record { paid = l + 1; taken = 0; some = omega arith; enough = omega arith; same = refl }

  -- what a judging pass hands back
  pub record Came (number : ℕ) (st : Scan) : Type 0 where
    pub state : st ≡ (scan_by ended fault next l start).state
    pub number_is : number ≡ halt_number (scan_by ended fault next l start).halt

  pub going_end : (st : Scan) → Going st → ended st ≡ true → Came 0 st
  going_end st g h =
      let q = g.same ∙ run_end Scan ended (step_by fault next) g.paid g.taken st h in
      record { state = ap (λ (t : Turned Scan). t.state) (sym q); number_is = ap (λ (t : Turned Scan). halt_number t.halt) (sym q) }

  pub going_fault : (number : ℕ) (st : Scan) → Going st → ended st ≡ false → number ≡ fault st → (number ≡ 0 → ⊥) → Came number st
  going_fault number st g h e z =
      let q = g.same ∙ run_refused Scan ended (step_by fault next) g.taken st h g.paid (fault st) st.at g.some
      (step_refused fault next st (λ w. z (e ∙ w))) in
      record { state = ap (λ (t : Turned Scan). t.state) (sym q); number_is = e ∙ ap (λ (t : Turned Scan). halt_number t.halt) (sym q) }

  -- one record more
  more : (st : Scan) (k j : ℕ) → 1 ≤ k → ended st ≡ false → fault st ≡ 0 → rest k j st ≡ rest (k - 1) (j + 1) (next st)
  more st zero j p h e = absurd (not-suc-le-zero p)
  more st (suc k) j p h e =
      run_moved Scan ended (step_by fault next) j st h k (next st) (step_passed fault next st e)
      ∙ ap (λ (x : ℕ). rest x (j + 1) (next st)) (omega arith)

  pub going_next : (st to : Scan) → Going st → ended st ≡ false → fault st ≡ 0 → to ≡ next st → st.at + 2 ≤ l → st.at + 2 ≤ to.at → Going to
  going_next st to g h e q u v = record {
    paid = g.paid - 1;
    taken = g.taken + 1;
    some = omega (arith, g.enough);
    enough = omega (arith, g.enough, g.some);
    same = g.same ∙ more st g.paid g.taken g.some h e ∙ ap (rest (g.paid - 1) (g.taken + 1)) (sym q);
  }

-- ---- what a scan comes to: the records before the one where it stops are faultless

module _ (ended : Scan → Bool) (fault : Scan → ℕ) (next : Scan → Scan) (l : ℕ)
    (passes : (st : Scan) → fault st ≡ 0 → (st.at + 2 ≤ (next st).at) × ((next st).at ≤ l)) where
  abbrev pub Passed : ℕ → Scan → Scan → Type 0
  Passed k st to = Moves Scan ended (step_by fault next) k st to

  -- a step that was taken
  pub step_inverse : (st to : Scan) → step_by fault next st ≡ moved to → (fault st ≡ 0) × (to ≡ next st)
  unfolding step_by
  step_inverse st to = go (eqb (fault st) 0) refl
    where
      go : (t : Bool) → eqb (fault st) 0 ≡ t → pick t (moved (next st)) (refused (fault st) st.at) ≡ moved to → (fault st ≡ 0) × (to ≡ next st)
      go true h q = (eqb-true _ _ h, cc)
      go false h q = let z : ◌≡◌ {A = ℕ} 0 1 = cc in absurd (omega arith)

  step_fault : (st : Scan) (number place : ℕ) → step_by fault next st ≡ refused number place
      → (fault st ≡ 0 → ⊥) × (number ≡ fault st) × (place ≡ st.at)
  unfolding step_by
  step_fault st number place = go (eqb (fault st) 0) refl
    where
      go : (t : Bool) → eqb (fault st) 0 ≡ t → pick t (moved (next st)) (refused (fault st) st.at) ≡ refused number place
          → (fault st ≡ 0 → ⊥) × (number ≡ fault st) × (place ≡ st.at)
      go true h q = let z : ◌≡◌ {A = ℕ} 0 1 = cc in absurd (omega arith)
      go false h q = (eqb-false _ _ h, cc, cc)

  step_silent : (st to : Scan) → step_by fault next st ≡ answered to → ⊥
  unfolding step_by
  step_silent st to = go (eqb (fault st) 0)
    where
      go : (t : Bool) → pick t (moved (next st)) (refused (fault st) st.at) ≡ answered to → ⊥
      go true q = let z : ◌≡◌ {A = ℕ} 0 1 = cc in omega arith
      go false q = let z : ◌≡◌ {A = ℕ} 0 1 = cc in omega arith

  pub passed_grow : {k : ℕ} {st to : Scan} → Passed k st to → (st.at + 2 * k ≤ to.at) × (1 ≤ k → to.at ≤ l)
  passed_grow {st = st} stay = (omega arith, λ h. absurd (omega arith))
  passed_grow {st = st} {to = to} (move {k = k} {mid = mid} h q m) =
      let i = step_inverse st mid q in
      let p = passes st i.0 in
      let at_is : mid.at ≡ (next st).at = ap (λ (s : Scan). s.at) i.1 in
      let g = passed_grow m in
      (omega (arith, p.0, g.0), λ w. last p.1 at_is g.1 m)
    where
      last : {k : ℕ} {mid to : Scan} {st : Scan} → (next st).at ≤ l → mid.at ≡ (next st).at → (1 ≤ k → to.at ≤ l) → Passed k mid to → to.at ≤ l
      last u e g stay = omega arith
      last u e g (move h q m) = g (omega arith)

  -- the end, after records that were all passed
  pub record Ended (start : Scan) : Type 0 where
    pub many : ℕ
    pub passed : Passed many start (scan_by ended fault next l start).state
    pub done : ended (scan_by ended fault next l start).state ≡ true
    pub number_is : halt_number (scan_by ended fault next l start).halt ≡ 0

  -- "the records before it are faultless, this one has this fault", and it begins at this place
  pub record Faulty (start : Scan) : Type 0 where
    pub many : ℕ
    pub passed : Passed many start (scan_by ended fault next l start).state
    pub on : ended (scan_by ended fault next l start).state ≡ false
    pub number_is : halt_number (scan_by ended fault next l start).halt ≡ fault (scan_by ended fault next l start).state
    pub some : fault (scan_by ended fault next l start).state ≡ 0 → ⊥
    pub place_is : (scan_by ended fault next l start).halt ≡ Halt.refusal (fault (scan_by ended fault next l start).state) (scan_by ended fault next l start).state.at

  pub scan_comes : (start : Scan) → Ended start ⊎ Faulty start
  scan_comes start = go (scan_by ended fault next l start) refl (turn_outcome Scan ended (step_by fault next) (l + 1) start)
    where
      go : (t : Turned Scan) → scan_by ended fault next l start ≡ t → Outcome Scan ended (step_by fault next) (l + 1) start t → Ended start ⊎ Faulty start
      go t e (Turns.ended {k = k} m h f) = inl (record { many = k; passed = rw e m; done = rw e f; number_is = rw e refl })
      go t e (spent {to = to} m f) =
          let g = passed_grow m in absurd (omega (arith, g.0, g.1 (omega arith)))
      go t e (told {mid = mid} {to = to} m h f a) = absurd (step_silent mid to a)
      go t e (faulty {k = k} {number = u} {entry = v} {to = to} m h f a) =
          let s = step_fault to u v a in
          inr (record { many = k; passed = rw e m; on = rw e f; number_is = rw e s.1; some = rw e s.0; place_is = rw e (cc (s.1, s.2)) })

  -- passed to the end, a scan is at its end
  pub scan_ended : {k : ℕ} {start to : Scan} → Passed k start to → ended to ≡ true
      → scan_by ended fault next l start ≡ record { state = to; steps = k; halt = Halt.end }
  scan_ended {k} {start} {to} m f = outcome_turn Scan ended (step_by fault next) (Turns.ended m (within m (passed_grow m)) f)
    where
      within : {k : ℕ} {st to : Scan} → Passed k st to → (st.at + 2 * k ≤ to.at) × (1 ≤ k → to.at ≤ l) → k ≤ l + 1
      within stay g = omega arith
      within (move h q m) g = let u = g.1 (omega arith) in omega (arith, g.0)
