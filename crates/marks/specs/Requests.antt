-- A request: an axis call whose signature was accepted and whose arguments were judged.
--   Judged, Refuses             what a request that is judged, and one that is refused, say of the whole call
--   JudgePromise s cs axis name r   r is the request of this call, or the refusal
use Rattle.std.specs.Prelude.{ℕ, ◌≡◌, List, Result, MatchResult}
use Rattle.terms.specs.declared.Refusal.{Refusal}
use Rattle.terms.specs.Room.{refused_left, room_for}
use Rattle.marks.specs.declared.request.Request.{Request}
use Rattle.marks.specs.Axis.{axis_number, answer_in, axis_answer}

-- the signature and the arguments that were judged are those that were lent, so that what is left is the answer or the room's refusal
pub record Judged (s contexts : List ℕ) (axis name : ℕ) (s' contexts' : List ℕ) (axis' name' : ℕ) : Type 0 where
  pub signature : s' ≡ s
  pub ranks : contexts' ≡ contexts
  pub numbered : axis' ≡ axis
  pub named : name' ≡ name
  pub left : (p : ℕ) (room : List ℕ) → axis_answer s contexts axis name p room ≡ room_for room (answer_in s contexts axis name p)

-- the call is refused so, whatever the position and the room
pub record Refuses (s contexts : List ℕ) (axis name number entry : ℕ) : Type 0 where
  pub left : (p : ℕ) (room : List ℕ) → axis_answer s contexts axis name p room ≡ refused_left room number entry

-- what the judge of a call answers
abbrev pub JudgePromise : List ℕ → List ℕ → ℕ → ℕ → Result Request Refusal → Type 0
JudgePromise s contexts axis name r =
    MatchResult r (λ q. Judged s contexts axis name q.tree.sig.now q.contexts.now (axis_number q.axis) q.name)
    (λ refused. Refuses s contexts axis name refused.number refused.entry.0)
