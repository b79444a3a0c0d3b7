-- What the theorems speak of: chains of public turns of the ordered question.
--   FitLent            a saved state, and the room that is lent with it
--   FitBack            what a turn hands back, and the room that it leaves
--   lend, reading      the state and the room for the next turn, and as that turn is given them
--   begins s tw l      a question that begins, whatever the room l holds
--   FitTurns s tw st B K r   public turns, each given the state and the room that the one before left
--   Answers s tw xs    xs is an ordered answer of the twig on the signature
--   Fits s tw, FitsNot s tw  there is one, and there is none
use Rattle.std.specs.Prelude.{ℕ, List}
use Rattle.turns.specs.Chains.{Chain}
use Rattle.trees.specs.Signature.{entries_of, width, entries}
use Rattle.ordering.specs.Answer.{Answer}
use Rattle.fits_rows.specs.Fitting.{Fitting}
use Rattle.fits.specs.declared.Fit.{Fit}
use Rattle.fits.specs.FitTurn.{fresh_of, fitting, FitPromise}
use Rattle.terms.specs.declared.Turn.{Turn}

-- a saved state, and the room that is lent with it
pub record FitLent : Type 0 where
  pub state : Fit
  pub room : List ℕ

-- what a turn hands back, and the room that it leaves
pub record FitBack : Type 0 where
  pub turn : Turn Fit
  pub left : List ℕ

-- the state and the room for the next turn
abbrev pub lend : FitBack → FitLent
lend r = record { state = r.turn.state; room = r.left }

-- the state and the room that a turn is given
abbrev pub reading : FitLent → Fitting
reading st = fitting st.state st.room

-- "Fresh: q = m, t = n, asking, whatever the room holds."
abbrev pub begins : List ℕ → List ℕ → List ℕ → FitLent
begins s tw room = record { state = fresh_of (entries tw) (entries s); room = room }

-- a turn keeps its promise
abbrev pub Keeps : List ℕ → List ℕ → ℕ → FitLent → FitBack → Type 0
Keeps s tw b st r = FitPromise s tw st.room b st.state r.turn r.left

-- any chain of public turns, with any budgets
abbrev pub FitTurns : List ℕ → List ℕ → FitLent → ℕ → ℕ → FitBack → Type 0
FitTurns s tw st B K r = Chain FitLent FitBack (λ b from t. Keeps s tw b from t) lend (λ t. t.turn.steps) st B K r

-- an ordered answer of the twig's numbers on the signature's
abbrev pub Answers : List ℕ → List ℕ → List ℕ → Type 0
Answers s tw xs = Answer (entries s) (entries_of width s) (entries tw) (entries_of width tw) xs

-- "an ordered answer exists"
abbrev pub Fits : List ℕ → List ℕ → Type 0
Fits s tw = (xs : List ℕ) × Answers s tw xs

-- and none does
abbrev pub FitsNot : List ℕ → List ℕ → Type 0
FitsNot s tw = (xs : List ℕ) → Answers s tw xs → ⊥
