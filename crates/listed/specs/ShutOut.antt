-- Document 01's wrong programs do not meet the demands on preparing and walking: each is any call that does what its name says, tried on a starred case.
--   shut_out_prep_refusing, shut_out_walk_refusing    refusing everything (demand 2)
--   shut_out_prep_fixed, shut_out_walk_fixed          one fixed answer, whatever it is (demand 2)
--   shut_out_prep_idle, shut_out_walk_idle            a turn that does nothing (demand 2 for answers)
--   shut_out_walk_once                                nothing more after the first answer (demand 2)
--   shut_out_prep_still, shut_out_walk_still          the same (demand 3, as a paid step leaves a named state)
--   shut_out_prep_at_once, shut_out_walk_at_once      all the work in the first turn and idling later (demand 3)
--   shut_out_prep_invented, shut_out_walk_invented    an invented step count (demand 3)
use Rattle.std.specs.Prelude.{ℕ, ◌≡◌, refl, ◌⊎◌, true, false, List, [], ◌∷◌, ◌++◌, take, replicate}
use Rattle.std.proofs.Common.{ap, ◌∙◌, sym, inl, inr, arith}
use Rattle.turns.specs.Turn.{Turned, run}
use Rattle.turns.specs.Chains.{one}
use Rattle.trees.specs.Signature.{cell, entries_of, width}
use Rattle.trees.specs.Names.{passes}
use Rattle.walks.specs.Chained.{told}
use Rattle.terms.specs.declared.Stop.{Stop}
use Rattle.terms.specs.declared.Refusal.{Refusal}
use Rattle.checked.specs.Menus.{ten, tarts, fork}
use Rattle.walk_ranges.specs.declared.Phase.{Phase}
use Rattle.walking.specs.declared.Walk.{Walk}
use Rattle.preparing.specs.declared.Prep.{Prep}
use Rattle.preparing.specs.Masks.{every, has_bit, mask, put, can}
use Rattle.twig_turns.specs.Given.{given_of}
use Rattle.twig_turns.specs.Grounds.{accepted_grounds}
use Rattle.preparing.specs.Preparing.{Preparing, children_in, stands, can_of, bad_parent, written, joined, step_table, prep_step}
use Rattle.preparing.specs.PrepTurn.{cleared, prep_at, prep_run_of}
use Rattle.walk_ranges.specs.Ranges.{image, place, image_fits, phase_fits}
use Rattle.walking.specs.Walking.{at, fresh, in_range, end_of, bad_end, back, found, walk_on, step_of}
use Rattle.walking.specs.WalkTurn.{walk_run_of}
use Rattle.listed.specs.Loose.{PartFits}
use Rattle.listed.specs.Questions.{Lent, PrepBack, reading, TableSays}
use Rattle.listed.specs.Questions as questions
use Rattle.listed.specs.Ruling.{Ready}
use Rattle.listed.specs.Prepared.{prepare_n}
use Rattle.listed.specs.Cases.{four_accepted, ten_accepted, four_table, ten_table, cleared_for, four_prepared, ten_prepared}
use Rattle.listed.specs.Worked.{four_listed, ten_listed}
use Rattle.listed.specs.Demands.{Preparer, Walker, PrepTwo, WalkTwo, PrepThree, WalkThree, prep_three_turn, walk_three_turn, begins, after}
use Rattle.terms.specs.declared.Turn.{Turn}
use Rattle.terms.specs.Stops.{Handed}

-- ---- demand 2 of preparing

-- what the start call leaves for the four entries and for Ten
abbrev four_start : Lent
four_start = record { state = four_prepared.state; table = four_prepared.cleared }

abbrev ten_start : Lent
ten_start = record { state = ten_prepared.state; table = ten_prepared.cleared }

-- a turn that may spend all steps has to report the end
must_end : (call : Preparer) → PrepTwo call → (call tarts (fork 2 3 4) 4 four_start).turn.stop ≡ Stop.End
must_end call d =
    d.complete tarts (fork 2 3 4) four_prepared.lent four_prepared.cleared four_prepared.state four_accepted four_prepared.start
    (one {b = 4} refl) (omega arith)

pub shut_out_prep_refusing : (call : Preparer) → ((s tw : List ℕ) (b : ℕ) (st : Lent)
    → (x : Refusal) × ((call s tw b st).turn.stop ≡ Stop.Refused x))
    → PrepTwo call → ⊥
shut_out_prep_refusing call h d =
    let q = sym (must_end call d) ∙ (h tarts (fork 2 3 4) 4 four_start).1 in let z : ◌≡◌ {A = ℕ} 0 1 = cc in omega arith

pub shut_out_prep_idle : (call : Preparer) → ((s tw : List ℕ) (b : ℕ) (st : Lent) → (call s tw b st).turn.stop ≡ Stop.Budget) → PrepTwo call → ⊥
shut_out_prep_idle call h d =
    let q = sym (must_end call d) ∙ h tarts (fork 2 3 4) 4 four_start in let z : ◌≡◌ {A = ℕ} 0 1 = cc in omega arith

-- twig node 2, named 3, fits at entry 3 of the four entries; twig node 2 of 8(9,10), named 9, does not at entry 3 of Ten
four_fits : PartFits 4 (entries_of width tarts) (entries_of width (fork 2 3 4)) 2 3
unfolding has_bit cell
four_fits =
    ((prepare_n tarts (fork 2 3 4) four_accepted four_prepared.lent four_prepared.cleared four_prepared.state four_prepared.start
    four_prepared.turns four_prepared.ended).1 2 3 (omega arith) (omega arith) (omega arith) (omega arith)).0 refl

ten_bit : has_bit (can ten_table 3) 2 ≡ false
unfolding has_bit cell
ten_bit = refl

ten_not : PartFits 10 (entries_of width ten) (entries_of width (fork 8 9 10)) 2 3 → ⊥
ten_not p =
    let h = ((prepare_n ten (fork 8 9 10) ten_accepted ten_prepared.lent ten_prepared.cleared ten_prepared.state ten_prepared.start
    ten_prepared.turns ten_prepared.ended).1 2 3 (omega arith) (omega arith) (omega arith) (omega arith)).1 p in
    let q = sym ten_bit ∙ h in let z : ◌≡◌ {A = ℕ} 0 1 = cc in omega arith

pub shut_out_prep_fixed : (r : PrepBack) → PrepTwo (λ s tw b st. r) → ⊥
shut_out_prep_fixed r d =
    let e : r.turn.stop ≡ Stop.End = must_end _ d in
    let a : TableSays tarts (fork 2 3 4) r.left
    = d.sound tarts (fork 2 3 4) four_prepared.lent four_prepared.cleared four_prepared.state four_accepted
    four_prepared.start (one {b = 4} refl) e in
    let b : TableSays ten (fork 8 9 10) r.left
    = d.sound ten (fork 8 9 10) ten_prepared.lent ten_prepared.cleared ten_prepared.state ten_accepted ten_prepared.start
    (one {b = 4} refl) e in
    ten_not ((b 2 3 (omega arith) (omega arith) (omega arith) (omega arith)).0
    ((a 2 3 (omega arith) (omega arith) (omega arith) (omega arith)).1 four_fits))

-- ---- demand 2 of walking

-- a turn that may spend 2×3×4+1 steps has to come to an answer or to the end
must_arrive : (call : Walker) → WalkTwo call
    → ((call tarts (fork 2 3 4) four_table 25 fresh).stop ≡ Stop.Answer) ⊎ ((call tarts (fork 2 3 4) four_table 25 fresh).stop ≡ Stop.End)
must_arrive call d = d.arrives tarts (fork 2 3 4) four_table four_accepted four_prepared begins (one {b = 25} refl) tt (omega arith)

-- a stop that is neither
module _ (call : Walker) (d : WalkTwo call) where
  not_refused : (x : Refusal) → (call tarts (fork 2 3 4) four_table 25 fresh).stop ≡ Stop.Refused x → ⊥
  not_refused x h = by (must_arrive call d)
    where
      by : ((call tarts (fork 2 3 4) four_table 25 fresh).stop ≡ Stop.Answer) ⊎ ((call tarts (fork 2 3 4) four_table 25 fresh).stop ≡ Stop.End)
          → ⊥
      by (inl e) = let q = sym e ∙ h in let z : ◌≡◌ {A = ℕ} 0 1 = cc in omega arith
      by (inr e) = let q = sym e ∙ h in let z : ◌≡◌ {A = ℕ} 0 1 = cc in omega arith

  not_budget : (call tarts (fork 2 3 4) four_table 25 fresh).stop ≡ Stop.Budget → ⊥
  not_budget h = by (must_arrive call d)
    where
      by : ((call tarts (fork 2 3 4) four_table 25 fresh).stop ≡ Stop.Answer) ⊎ ((call tarts (fork 2 3 4) four_table 25 fresh).stop ≡ Stop.End)
          → ⊥
      by (inl e) = let q = sym e ∙ h in let z : ◌≡◌ {A = ℕ} 0 1 = cc in omega arith
      by (inr e) = let q = sym e ∙ h in let z : ◌≡◌ {A = ℕ} 0 1 = cc in omega arith

pub shut_out_walk_refusing : (call : Walker)
    → ((s tw left : List ℕ) (b : ℕ) (w : Walk) → (x : Refusal) × ((call s tw left b w).stop ≡ Stop.Refused x)) → WalkTwo call → ⊥
shut_out_walk_refusing call h d =
    let x = h tarts (fork 2 3 4) four_table 25 fresh in not_refused call d x.0 x.1

pub shut_out_walk_idle : (call : Walker) → ((s tw left : List ℕ) (b : ℕ) (w : Walk) → (call s tw left b w).stop ≡ Stop.Budget) → WalkTwo call → ⊥
shut_out_walk_idle call h d = not_budget call d (h tarts (fork 2 3 4) four_table 25 fresh)

pub shut_out_walk_fixed : (r : Turn Walk) → WalkTwo (λ s tw left b w. r) → ⊥
unfolding told
shut_out_walk_fixed r d = by r.stop refl
  where
    by : (x : Stop) → r.stop ≡ x → ⊥
    by Stop.Answer h =
        let f = d.front tarts (fork 2 3 4) four_table four_accepted four_prepared (one {b = 1} refl) in
        let e : questions.told Stop.Answer (take 3 r.state.images) ++ f.0 ≡ []
        = ap (λ (x : Stop). questions.told x (take 3 r.state.images) ++ f.0) (sym h) ∙ f.1 ∙ four_listed in
        let z : ◌≡◌ {A = ℕ} 0 1 = cc in omega arith
    by Stop.End h =
        let f = d.whole ten (fork 8 9 10) ten_table ten_accepted ten_prepared (one {b = 1} refl) h in
        let e : ◌≡◌ {A = List (List ℕ)} [] ((8 ∷ 9 ∷ 10 ∷ []) ∷ [])
        = ap (λ (x : Stop). questions.told x (take 3 r.state.images)) (sym h) ∙ f ∙ ten_listed in
        let z : ◌≡◌ {A = ℕ} 0 1 = cc in omega arith
    by Stop.Budget h = not_budget (λ s tw left b w. r) d h
    by (Stop.Refused x) h = not_refused (λ s tw left b w. r) d x h

-- any walk that idles after an answer; 8(9,10) on Ten has one answer, and behind it the end is to be reported
pub shut_out_walk_once : (call : Walker) → ((s tw left : List ℕ) (b c : ℕ) (w : Walk)
    → (call s tw left b w).stop ≡ Stop.Answer → (call s tw left c (call s tw left b w).state).stop ≡ Stop.Budget)
    → WalkTwo call → ⊥
unfolding told
shut_out_walk_once call h d = by (d.arrives ten (fork 8 9 10) ten_table ten_accepted ten_prepared begins (one {b = 61} refl) tt (omega arith))
  where
    first : Turn Walk
    first = call ten (fork 8 9 10) ten_table 61 fresh

    second : Turn Walk
    second = call ten (fork 8 9 10) ten_table 61 first.state

    idles : second.stop ≡ Stop.Budget → (second.stop ≡ Stop.Answer) ⊎ (second.stop ≡ Stop.End) → ⊥
    idles q (inl e) = let z = sym e ∙ q in let y : ◌≡◌ {A = ℕ} 0 1 = cc in omega arith
    idles q (inr e) = let z = sym e ∙ q in let y : ◌≡◌ {A = ℕ} 0 1 = cc in omega arith

    by : (first.stop ≡ Stop.Answer) ⊎ (first.stop ≡ Stop.End) → ⊥
    by (inl e) =
        idles (h ten (fork 8 9 10) ten_table 61 61 fresh e)
        (d.arrives ten (fork 8 9 10) ten_table ten_accepted ten_prepared (after (one {b = 61} refl)) (one {b = 61} refl) tt (omega arith))
    by (inr e) =
        let f = d.whole ten (fork 8 9 10) ten_table ten_accepted ten_prepared (one {b = 61} refl) e in
        let z : ◌≡◌ {A = List (List ℕ)} [] ((8 ∷ 9 ∷ 10 ∷ []) ∷ [])
        = ap (λ (x : Stop). questions.told x (take 3 first.state.images)) (sym e) ∙ f ∙ ten_listed in
        let y : ◌≡◌ {A = ℕ} 0 1 = cc in omega arith

-- ---- demand 3 of preparing

four_given : (given_of tarts (fork 2 3 4)).reason ≡ 1
four_given = (accepted_grounds tarts (fork 2 3 4) four_accepted).given

four_ready : Ready 4 (reading (record { state = prep_at 4; table = cleared_for 4 }))
unfolding cleared
four_ready = record { next_high = omega arith; room = omega arith }

-- after b steps of preparing the four entries
abbrev pub four_run : ℕ → Turned Preparing
four_run b = prep_run_of (entries_of width tarts) (entries_of width (fork 2 3 4)) 3 b (record { next = 4; table = cleared_for 4 })

four_next : (four_run 1).state.next ≡ 3
unfolding run cell every has_bit mask put passes children_in stands can_of bad_parent written joined step_table prep_step cleared
four_next = refl

-- the four entries as the start call leaves them
abbrev pub four_fresh : Lent
four_fresh = record { state = prep_at 4; table = cleared_for 4 }

-- what demand 3 says of a turn on the four entries
module _ (call : Preparer) (d : PrepThree call) (b : ℕ) where
  prep_steps : (call tarts (fork 2 3 4) b four_fresh).turn.steps ≡ (four_run b).steps
  prep_steps = (prep_three_turn call d tarts (fork 2 3 4) four_given b four_fresh four_ready).steps

  prep_next : (call tarts (fork 2 3 4) b four_fresh).turn.state.next.0 ≡ (four_run b).state.next
  prep_next = ap (λ (p : Prep). p.next.0) (prep_three_turn call d tarts (fork 2 3 4) four_given b four_fresh four_ready).state

-- any turn that hands back the state that it was given
pub shut_out_prep_still : (call : Preparer) → ((s tw : List ℕ) (b : ℕ) (st : Lent) → (call s tw b st).turn.state ≡ st.state) → PrepThree call → ⊥
shut_out_prep_still call h d =
    let q : ◌≡◌ {A = ℕ} 4 3 = ap (λ (p : Prep). p.next.0) (sym (h tarts (fork 2 3 4) 1 four_fresh)) ∙ prep_next call d 1 ∙ four_next in omega arith

-- any turn that does all the work at once, whatever its budget; what it does later does not matter
pub shut_out_prep_at_once : (call : Preparer) → ((b : ℕ) → (call tarts (fork 2 3 4) b four_fresh).turn.state ≡ prep_at 0) → PrepThree call → ⊥
shut_out_prep_at_once call h d =
    let q : ◌≡◌ {A = ℕ} 0 3 = ap (λ (p : Prep). p.next.0) (sym (h 1)) ∙ prep_next call d 1 ∙ four_next in omega arith

-- any count that is not that of the steps between the two states
pub shut_out_prep_invented : (call : Preparer) (b : ℕ) → ((call tarts (fork 2 3 4) b four_fresh).turn.steps ≡ (four_run b).steps → ⊥) → PrepThree call → ⊥
shut_out_prep_invented call b n d = n (prep_steps call d b)

-- ---- demand 3 of walking

four_fresh_law : in_range 4 3 (entries_of width (fork 2 3 4)) fresh ≡ true
unfolding in_range phase_fits image_fits every image cell
four_fresh_law = refl

-- after b steps of walking over the four entries
abbrev pub four_walk : ℕ → Turned Walk
four_walk b = walk_run_of 4 3 (entries_of width tarts) (entries_of width (fork 2 3 4)) (can four_table) b fresh

walk_next : (four_walk 1).state.candidate.0 ≡ 2
unfolding run cell has_bit image place end_of bad_end back found walk_on step_of
walk_next = refl

-- what demand 3 says of a turn over them
module _ (call : Walker) (d : WalkThree call) (b : ℕ) where
  walk_turn_law : Handed (call tarts (fork 2 3 4) four_table b fresh) (four_walk b)
  walk_turn_law = walk_three_turn call d tarts (fork 2 3 4) four_table four_given (omega arith) b fresh four_fresh_law

  walk_candidate : (call tarts (fork 2 3 4) four_table b fresh).state.candidate.0 ≡ (four_walk b).state.candidate.0
  walk_candidate = ap (λ (w : Walk). w.candidate.0) walk_turn_law.state

pub shut_out_walk_still : (call : Walker) → ((s tw left : List ℕ) (b : ℕ) (w : Walk) → (call s tw left b w).state ≡ w) → WalkThree call → ⊥
shut_out_walk_still call h d =
    let q : ◌≡◌ {A = ℕ} 1 2
    = ap (λ (w : Walk). w.candidate.0) (sym (h tarts (fork 2 3 4) four_table 1 fresh)) ∙ walk_candidate call d 1 ∙ walk_next in
    omega arith

-- the whole walk over the four entries ends with the candidate at 5
pub shut_out_walk_at_once : (call : Walker) → ((b : ℕ) → (call tarts (fork 2 3 4) four_table b fresh).state ≡ at (replicate 16 0) 1 5 Phase.Ended)
    → WalkThree call → ⊥
shut_out_walk_at_once call h d =
    let q : ◌≡◌ {A = ℕ} 5 2 = ap (λ (w : Walk). w.candidate.0) (sym (h 1)) ∙ walk_candidate call d 1 ∙ walk_next in omega arith

pub shut_out_walk_invented : (call : Walker) (b : ℕ) → ((call tarts (fork 2 3 4) four_table b fresh).steps ≡ (four_walk b).steps → ⊥) → WalkThree call → ⊥
shut_out_walk_invented call b n d = n (walk_turn_law call d b).steps
