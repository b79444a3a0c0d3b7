-- Laws of lines of numbers, from number i on.
--   value_at                the value of item i is number i of the values
--   numbers_at              number i with its space or the line feed behind it, and the numbers from the next one on
--   numbers_end             from its end on nothing is left
--   after_more, after_last  a space stands where others follow, and the line feed after the last one
use Rattle.std.proofs.Common.{◌≡◌, ℕ, ◌+◌, ◌≤◌, ◌<◌, List, [], ◌∷◌, ◌++◌, length, get_or, map, drop, ◌∙◌, ap, sym, append_assoc}
use Rattle.std.proofs.lemmas.List.{at_drop_more, at_drop_all, get_or-map}
use Rattle.digits.specs.Decimal.{decimal}
use Rattle.digits.specs.Numbers.{after, numbers}

pub value_at : {X : Type 0} (v : X → ℕ) (l : List X) (i : ℕ) {n : ℕ} {x : X} (d : X) → i < length l → x ≡ get_or l i d → n ≡ v x
    → n ≡ get_or (map v l) i 0
value_at v l i d h e f = f ∙ ap v e ∙ sym (get_or-map v l i d 0 h)

pub numbers_at : (l : List ℕ) (i : ℕ) → i < length l
    → numbers (drop i l) ≡ (decimal (get_or l i 0) ++ after (drop (i + 1) l) ∷ []) ++ numbers (drop (i + 1) l)
unfolding numbers
numbers_at l i h =
    at_drop_more numbers l i 0 h ∙ sym (append_assoc (decimal (get_or l i 0)) (after (drop (i + 1) l) ∷ []) (numbers (drop (i + 1) l)))

pub numbers_end : (l : List ℕ) (i : ℕ) → length l ≤ i → numbers (drop i l) ≡ []
unfolding numbers
numbers_end l i h = at_drop_all numbers l i h

pub after_more : (l : List ℕ) (i : ℕ) → i < length l → 32 ≡ after (drop i l)
after_more l i h = sym (at_drop_more after l i 0 h)

pub after_last : (l : List ℕ) (i : ℕ) → length l ≤ i → 10 ≡ after (drop i l)
after_last l i h = sym (at_drop_all after l i h)
