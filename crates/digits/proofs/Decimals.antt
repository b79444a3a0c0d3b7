-- Laws of decimal digits.
--   decimal_one     a number below 10 is one digit
--   decimal_ten     a number of 10 or more is its tenth part's digits and then its last one
--   decimal_value   the digits of n tell n
--   decimal_apart   two numbers with the same digits are equal
--   decimal_front   the first digit of a number that is not 0 is no zero, and 0 is one digit
--   printed_one, printed_ten   the same two cases, printed
use Prim.Native.Nat.{ℕ, zero, suc, ◌+◌, ◌-◌, ◌*◌, ◌/◌, ◌%◌, ◌≤◌, ◌<◌}
use mathlib.Core.Path.{◌≡◌, refl, ap, ◌∙◌, sym, subst}
use mathlib.Core.Logic.{◌⊎◌, inl, inr}
use mathlib.Core.List.{List, [], ◌∷◌, ◌++◌}
use native.Mathlib.Omega.{arith}
use native.Mathlib.Decide.{dec_lt}
use lib.ListN.{get_or}
use borrow.Author.Tests.{lt-ltb, le-ltb}
use Rattle.digits.specs.declared.Printer.{Printer}
use Rattle.digits.specs.Printed.{Printed}
use Rattle.digits.specs.Decimal.{digits_in, decimal, value_after, value}
use Rattle.digits.proofs.Onward.{printed_then}

-- one digit, or one more
digits_one : (k n : ℕ) → n < 10 → digits_in (suc k) n ≡ (48 + n) ∷ []
unfolding digits_in
digits_one k n h = rw (lt-ltb n 10 h) refl

digits_ten : (k n : ℕ) → 10 ≤ n → digits_in (suc k) n ≡ digits_in k (n / 10) ++ (48 + n % 10) ∷ []
unfolding digits_in
digits_ten k n h = rw (le-ltb n 10 h) refl

-- more room for digits changes nothing
digits_same : (k j n : ℕ) → n < k → n < j → digits_in k n ≡ digits_in j n
digits_same zero j n h l = absurd (omega arith)
digits_same (suc k) zero n h l = absurd (omega arith)
digits_same (suc k) (suc j) n h l = by (dec_lt n 10) (λ a b. digits_same k j (n / 10) a b)
  where
    by : Dec (n < 10) → (n / 10 < k → n / 10 < j → digits_in k (n / 10) ≡ digits_in j (n / 10)) → digits_in (suc k) n ≡ digits_in (suc j) n
    by (yes s) ih = digits_one k n s ∙ sym (digits_one j n s)
    by (no s) ih =
        digits_ten k n (omega arith)
        ∙ ap (λ (l : List ℕ). l ++ (48 + n % 10) ∷ []) (ih (omega arith) (omega arith))
        ∙ sym (digits_ten j n (omega arith))

pub decimal_one : (n : ℕ) → n < 10 → decimal n ≡ (48 + n) ∷ []
decimal_one n h = digits_one n n h

pub decimal_ten : (n : ℕ) → 10 ≤ n → decimal n ≡ decimal (n / 10) ++ (48 + n % 10) ∷ []
decimal_ten n h =
    digits_ten n n h ∙ ap (λ (l : List ℕ). l ++ (48 + n % 10) ∷ []) (digits_same n (suc (n / 10)) (n / 10) (omega arith) (omega arith))

value_append : (v : ℕ) (a b : List ℕ) → value_after v (a ++ b) ≡ value_after (value_after v a) b
unfolding value_after
value_append v [] b = refl
value_append v (x ∷ a) b = value_append (10 * v + (x - 48)) a b

last : (v d : ℕ) → value_after v ((48 + d) ∷ []) ≡ 10 * v + d
unfolding value_after
last v d = omega arith

digits_value : (k n : ℕ) → n < k → value (digits_in k n) ≡ n
digits_value zero n h = absurd (omega arith)
digits_value (suc k) n h = by (dec_lt n 10) (λ a. digits_value k (n / 10) a)
  where
    by : Dec (n < 10) → (n / 10 < k → value (digits_in k (n / 10)) ≡ n / 10) → value (digits_in (suc k) n) ≡ n
    by (yes s) ih = ap value (digits_one k n s) ∙ last 0 n ∙ omega arith
    by (no s) ih =
        ap value (digits_ten k n (omega arith))
        ∙ value_append 0 (digits_in k (n / 10)) ((48 + n % 10) ∷ [])
        ∙ ap (λ (v : ℕ). value_after v ((48 + n % 10) ∷ [])) (ih (omega arith))
        ∙ last (n / 10) (n % 10) ∙ omega arith

-- the digits of n tell n
pub decimal_value : (n : ℕ) → value (decimal n) ≡ n
decimal_value n = digits_value (suc n) n (omega arith)

pub decimal_apart : (a b : ℕ) → decimal a ≡ decimal b → a ≡ b
decimal_apart a b h = sym (decimal_value a) ∙ ap value h ∙ decimal_value b

-- ---- no zeros in front

digits_front : (k n : ℕ) → n < k → 1 ≤ n → 48 < get_or (digits_in k n) 0 48
digits_front zero n h l = absurd (omega arith)
digits_front (suc k) n h l = by (dec_lt n 10) (λ a b. digits_front k (n / 10) a b)
  where
    first : (l : List ℕ) (d : ℕ) → 48 < get_or l 0 48 → 48 < get_or (l ++ d ∷ []) 0 48
    first [] d p = absurd (omega arith)
    first (x ∷ l) d p = p

    by : Dec (n < 10) → (n / 10 < k → 1 ≤ n / 10 → 48 < get_or (digits_in k (n / 10)) 0 48) → 48 < get_or (digits_in (suc k) n) 0 48
    by (yes s) ih = rw (digits_one k n s) (omega arith)
    by (no s) ih = rw (digits_ten k n (omega arith)) (first (digits_in k (n / 10)) (48 + n % 10) (ih (omega arith) (omega arith)))

-- "without zeros in front": the byte 48 stands for the digit 0
pub decimal_front : (n : ℕ) → ((n ≡ 0) × (decimal n ≡ 48 ∷ [])) ⊎ (48 < get_or (decimal n) 0 48)
decimal_front zero = inl (refl, decimal_one 0 (omega arith))
decimal_front (suc n) = inr (digits_front (suc (suc n)) (suc n) (omega arith) (omega arith))

-- ---- printed

pub printed_one : (n d : ℕ) {p q : Printer} → n < 10 → d ≡ 48 + n % 10 → Printed (d ∷ []) p q → Printed (decimal n) p q
printed_one n d {p} {q} h e x =
    let f : d ≡ 48 + n = omega arith in
    subst (λ (l : List ℕ). Printed l p q) (ap (λ (k : ℕ). k ∷ []) f ∙ sym (decimal_one n h)) x

pub printed_ten : (n d : ℕ) {p q r : Printer} → 10 ≤ n → d ≡ 48 + n % 10 → Printed (decimal (n / 10)) p q → Printed (d ∷ []) q r
    → Printed (decimal n) p r
printed_ten n d {p} {r = r} h e x y =
    subst (λ (l : List ℕ). Printed l p r) (ap (λ (k : ℕ). decimal (n / 10) ++ k ∷ []) e ∙ sym (decimal_ten n h)) (printed_then x y)
