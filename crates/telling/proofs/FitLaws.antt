-- A question's numbers by their stage: over 2 they stand for none.
use Rattle.std.proofs.Common.{ℕ, ◌≡◌, ◌<◌, ◌≤◌, List, get_or, lt-ltb, le-ltb}
use Rattle.fits.specs.declared.Fit.{Fit}
use Rattle.telling.specs.Fits.{outside, fit_state_of, fit_numbers, kept_of}

pub fit_outside : (l : List ℕ) → 2 < get_or l 2 0 → fit_state_of l ≡ outside
fit_outside l h = simp (lt-ltb 2 (get_or l 2 0) h)

pub kept_given : (l : List ℕ) (st : Fit) → 2 < get_or l 2 0 → kept_of l st ≡ l
kept_given l st h = simp (lt-ltb 2 (get_or l 2 0) h)

pub kept_fit : (l : List ℕ) (st : Fit) → get_or l 2 0 ≤ 2 → kept_of l st ≡ fit_numbers st
kept_fit l st h = simp (le-ltb 2 (get_or l 2 0) h)
