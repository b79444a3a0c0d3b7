-- Signature records: an entry after an entry is written.
--   numbers_length, bytes_length   how long the results are
--   numbers_next, bytes_next       the first of several entries, and the others
--   names_any                      a name that is 0, by a test of each entry
use Prim.Native.Nat.{ℕ, zero, suc, ◌+◌, ◌-◌, ◌*◌, ◌≤◌, ◌<◌}
use mathlib.Core.Path.{◌≡◌, refl, ap, ◌∙◌}
use mathlib.Core.List.{List, [], ◌∷◌}
use native.Mathlib.Omega.{arith}
use native.Mathlib.Nat.{not-suc-le-zero}
use lib.ListN.{length, get_or}
use lib.Seq.{sets}
use lib.Dec.{eqb}
use mathlib.Core.Bool.{Bool, ◌||◌}
use Rattle.std.specs.List.{list_any, range_with_len}
use Rattle.bytes_read.proofs.Rooms.{Storing, storing_more}
use Rattle.bytes_read.specs.Bytes.{number_at}
use Rattle.records.specs.Records.{numbers_from, entry_bytes, bytes_from, nameless_from}

pub numbers_length : (b : List ℕ) (p n : ℕ) → length (numbers_from b p n) ≡ 4 * n
unfolding numbers_from
numbers_length b p zero = refl
numbers_length b p (suc n) = omega (arith, numbers_length b (p + 10) n)

pub numbers_next : (b : List ℕ) (p n : ℕ) → 0 < n
    → numbers_from b p n ≡ number_at b (p + 2) ∷ number_at b (p + 4) ∷ number_at b (p + 6) ∷ number_at b (p + 8) ∷ numbers_from b (p + 10) (n - 1)
unfolding numbers_from
numbers_next b p zero h = absurd (not-suc-le-zero h)
numbers_next b p (suc n) h =
    let q : n ≡ suc n - 1 = omega arith in
    ap (λ (k : ℕ). number_at b (p + 2) ∷ number_at b (p + 4) ∷ number_at b (p + 6) ∷ number_at b (p + 8) ∷ numbers_from b (p + 10) k) q

-- the entry after i others, and those after it
pub numbers_more : (b : List ℕ) (i n : ℕ) → i < n
    → numbers_from b (10 * i) (n - i)
    ≡ number_at b (10 * i + 2) ∷ number_at b (10 * i + 4) ∷ number_at b (10 * i + 6) ∷ number_at b (10 * i + 8)
    ∷ numbers_from b (10 * (i + 1)) (n - (i + 1))
numbers_more b i n h =
    let p : 10 * i + 10 ≡ 10 * (i + 1) = omega arith in
    let q : n - i - 1 ≡ n - (i + 1) = omega arith in
    numbers_next b (10 * i) (n - i) (omega arith)
    ∙ ap (λ (r : List ℕ). number_at b (10 * i + 2) ∷ number_at b (10 * i + 4) ∷ number_at b (10 * i + 6) ∷ number_at b (10 * i + 8) ∷ r)
    (ap (λ (k : ℕ). numbers_from b k (n - i - 1)) p ∙ ap (numbers_from b (10 * (i + 1))) q)

-- no entry is left
pub numbers_none : (b : List ℕ) (p n : ℕ) → n ≤ 0 → numbers_from b p n ≡ []
unfolding numbers_from
numbers_none b p zero h = refl
numbers_none b p (suc n) h = absurd (omega arith)

-- entry i is stored
pub numbers_stored : (room₀ b room to : List ℕ) (i n a p f u : ℕ)
    → Storing room₀ (numbers_from b 0 n) room (4 * i) (numbers_from b (10 * i) (n - i)) → i < n → to ≡ sets room (4 * i) (a ∷ p ∷ f ∷ u ∷ [])
    → a ≡ number_at b (10 * i + 2) → p ≡ number_at b (10 * i + 4) → f ≡ number_at b (10 * i + 6) → u ≡ number_at b (10 * i + 8)
    → Storing room₀ (numbers_from b 0 n) to (4 * (i + 1)) (numbers_from b (10 * (i + 1)) (n - (i + 1)))
numbers_stored room₀ b room to i n a p f u s h t qa qp qf qu =
    storing_more room₀ (numbers_from b 0 n) room (4 * i) _ to (4 * (i + 1)) (a ∷ p ∷ f ∷ u ∷ []) _ s
    (numbers_more b i n h ∙ cc) t (omega arith)

-- ---- writing

pub bytes_length : (s : List ℕ) (k n : ℕ) → length (bytes_from s k n) ≡ 10 * n
unfolding bytes_from
bytes_length s k zero = refl
bytes_length s k (suc n) = omega (arith, bytes_length s (k + 4) n)

bytes_next : (s : List ℕ) (k n : ℕ) → 0 < n
    → bytes_from s k n ≡ entry_bytes (get_or s k 0) (get_or s (k + 1) 0) (get_or s (k + 2) 0) (get_or s (k + 3) 0) (bytes_from s (k + 4) (n - 1))
unfolding bytes_from
bytes_next s k zero h = absurd (not-suc-le-zero h)
bytes_next s k (suc n) h =
    let q : n ≡ suc n - 1 = omega arith in
    ap (λ (m : ℕ). entry_bytes (get_or s k 0) (get_or s (k + 1) 0) (get_or s (k + 2) 0) (get_or s (k + 3) 0) (bytes_from s (k + 4) m)) q

bytes_more : (s : List ℕ) (i n : ℕ) → i < n
    → bytes_from s (4 * i) (n - i)
    ≡ entry_bytes (get_or s (4 * i) 0) (get_or s (4 * i + 1) 0) (get_or s (4 * i + 2) 0) (get_or s (4 * i + 3) 0) (bytes_from s (4 * (i + 1)) (n - (i + 1)))
bytes_more s i n h =
    let p : 4 * i + 4 ≡ 4 * (i + 1) = omega arith in
    let q : n - i - 1 ≡ n - (i + 1) = omega arith in
    bytes_next s (4 * i) (n - i) (omega arith)
    ∙ ap (entry_bytes (get_or s (4 * i) 0) (get_or s (4 * i + 1) 0) (get_or s (4 * i + 2) 0) (get_or s (4 * i + 3) 0))
    (ap (λ (k : ℕ). bytes_from s k (n - i - 1)) p ∙ ap (bytes_from s (4 * (i + 1))) q)

pub bytes_none : (s : List ℕ) (k n : ℕ) → n ≤ 0 → bytes_from s k n ≡ []
unfolding bytes_from
bytes_none s k zero h = refl
bytes_none s k (suc n) h = absurd (omega arith)

-- the record of entry i is stored
pub bytes_stored : (room₀ s room to : List ℕ) (i n : ℕ)
    → Storing room₀ (bytes_from s 0 n) room (10 * i) (bytes_from s (4 * i) (n - i)) → i < n
    → to ≡ sets room (10 * i) (entry_bytes (get_or s (4 * i) 0) (get_or s (4 * i + 1) 0) (get_or s (4 * i + 2) 0) (get_or s (4 * i + 3) 0) [])
    → Storing room₀ (bytes_from s 0 n) to (10 * (i + 1)) (bytes_from s (4 * (i + 1)) (n - (i + 1)))
bytes_stored room₀ s room to i n g h t =
    storing_more room₀ (bytes_from s 0 n) room (10 * i) _ to (10 * (i + 1))
    (entry_bytes (get_or s (4 * i) 0) (get_or s (4 * i + 1) 0) (get_or s (4 * i + 2) 0) (get_or s (4 * i + 3) 0) []) _ g (bytes_more s i n h) t (omega arith)

-- ---- names

-- a name of n entries is 0, by a test of each
any_from : (s : List ℕ) (i n : ℕ) → nameless_from s (4 * i) n ≡ list_any (λ k. eqb (get_or s (4 * k) 0) 0) (range_with_len i n)
unfolding nameless_from
any_from s i zero = refl
any_from s i (suc n) =
    let p : 4 * i + 4 ≡ 4 * (i + 1) = omega arith in
    ap (λ (k : ℕ). eqb (get_or s (4 * i) 0) 0 || nameless_from s k n) p
    ∙ ap (λ (t : Bool). eqb (get_or s (4 * i) 0) 0 || t) (any_from s (i + 1) n)

pub names_any : (s : List ℕ) (n : ℕ) → nameless_from s 0 n ≡ list_any (λ i. eqb (get_or s (4 * i) 0) 0) (range_with_len 0 n)
names_any s n = any_from s 0 n
