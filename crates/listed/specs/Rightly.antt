-- What preparing keeps: where the entries after t are done, can of each of them is right, and below of every entry has the bits of what is
-- matched in the blocks of its children after t. A step of the rule keeps this for one entry more.
--   Child e s j         the child of s in whose block j lies
--   block_inside, child_under   blocks in blocks
--   in_child            each entry below s lies in the block of a child of s
--   Joined t s q        twig node q is matched in the block of a child of s after t
--   Right table t       the table is right after t
--   clear_right         it is where the start call left nothing but zeros
--   right_fits          where all entries are done, bit q of can of t says whether the twig's part under q fits with q at t
use Rattle.std.specs.Prelude.{ℕ, zero, suc, ◌+◌, ◌-◌, ◌*◌, ◌≤◌, ◌<◌, ◌≡◌, ◌⊎◌, ◌↔◌, true, false, List}
use Rattle.std.proofs.Common.{sym, ap, subst, ◌∙◌, inl, inr, arith}
use Rattle.std.proofs.Math.Decide.{ℕ_discrete}
use Rattle.trees.specs.Signature.{Entries, cell}
use Rattle.trees.specs.Facts.{Facts, Inside, Follows}
use Rattle.preparing.specs.Masks.{has_bit, can, below}
use Rattle.preparing.specs.PrepTurn.{cleared}
use Rattle.walks.specs.Image.{Below}
use Rattle.listed.specs.Loose.{PartFits}
use Rattle.listed.specs.Matching.{Match, fits_match, match_fits}
use Rattle.listed.specs.Bits.{zero_bit}
use Rattle.listed.specs.Tables.{clear_get}

-- the child of s in whose block j lies
pub record Child (n : ℕ) (e : Entries) (s j : ℕ) : Type 0 where
  pub child : ℕ
  pub parent : e.fa child ≡ s
  pub after : s < child
  pub last : child ≤ n
  pub low : child ≤ j
  pub high : j < e.ff child

module _ (n : ℕ) (e : Entries) (tree : Facts n e) where
  -- the blocks of two entries, one of them in the other's
  pub block_inside : (s j : ℕ) → 1 ≤ s → s < j → j ≤ n → j < e.ff s → Inside e s j
  block_inside s j a b c h = by (tree.pair s j a b c)
    where
      by : Inside e s j ⊎ Follows e s j → Inside e s j
      by (inl i) = i
      by (inr i) = absurd (omega (arith, i.outside))

  climb : (d s j : ℕ) → j < d → 1 ≤ s → s < j → j ≤ n → j < e.ff s → Child n e s j
  climb zero s j f a b c h = absurd (omega arith)
  climb (suc d) s j f a b c h =
      by (ℕ_discrete (e.fa j) s) (λ k l p r. climb d s (e.fa j) k a l p r)
    where
      up : e.fa j < j
      up = (tree.each j (omega arith) c).fa_high

      own : Inside e (e.fa j) j
      own = tree.own j (omega arith) c

      wide : (x : ℕ) → 1 ≤ x → x ≤ e.fa j → e.fa j < e.ff x → Dec (x ≡ e.fa j) → j < e.ff x
      wide x k l p (yes z) = rw z own.inside
      wide x k l p (no z) = omega (arith, own.inside, (block_inside x (e.fa j) k (omega arith) (omega (arith, up)) p).nested)

      by : Dec (e.fa j ≡ s) → (e.fa j < d → s < e.fa j → e.fa j ≤ n → e.fa j < e.ff s → Child n e s (e.fa j)) → Child n e s j
      by (yes z) rec =
          record { child = j; parent = z; after = b; last = c; low = omega arith; high = (tree.each j (omega arith) c).ff_low }
      by (no z) rec =
          let i = block_inside s j a b c h in
          let g = rec (omega (arith, up)) (omega (arith, i.under)) (omega (arith, up)) (omega (arith, up)) in
          record {
            child = g.child;
            parent = g.parent;
            after = g.after;
            last = g.last;
            low = omega (arith, g.low, up);
            high = wide g.child (omega (arith, g.after)) g.low g.high (ℕ_discrete g.child (e.fa j));
          }

  -- each entry below s lies in the block of a child of s
  pub in_child : (s j : ℕ) → 1 ≤ s → s < j → j ≤ n → j < e.ff s → Child n e s j
  in_child s j a b c h = climb (suc j) s j (omega arith) a b c h

  -- what lies in the block of a child lies in the block of the parent
  pub child_under : (s j : ℕ) → 1 ≤ s → Child n e s j → Below e.ff s j
  child_under s j a g =
      let i = subst (λ (x : ℕ). Inside e x g.child) g.parent (tree.own g.child (omega (arith, g.after)) g.last) in
      record { after = omega (arith, g.after, g.low); before = omega (arith, g.high, i.nested) }

module _ (n m : ℕ) (e w : Entries) where
  -- twig node q is matched in the block of a child of s after t
  pub record Joined (t s q : ℕ) : Type 0 where
    pub at : ℕ
    pub inside : Child n e s at
    pub done : t < inside.child
    pub found : Match n m e w q at

  -- the table is right after t
  pub record Right (table : List ℕ) (t : ℕ) : Type 0 where
    pub can_sound : (s q : ℕ) → t < s → s ≤ n → 1 ≤ q → q ≤ m → has_bit (can table s) q ≡ true → Match n m e w q s
    pub can_complete : (s q : ℕ) → t < s → s ≤ n → 1 ≤ q → q ≤ m → Match n m e w q s → has_bit (can table s) q ≡ true
    pub can_above : (s q : ℕ) → t < s → s ≤ n → m < q → has_bit (can table s) q ≡ false
    pub below_sound : (s q : ℕ) → 1 ≤ s → s ≤ n → 1 ≤ q → q ≤ m → has_bit (below table s) q ≡ true → Joined t s q
    pub below_complete : (s q : ℕ) → 1 ≤ s → s ≤ n → 1 ≤ q → q ≤ m → Joined t s q → has_bit (below table s) q ≡ true

  -- to begin with nothing is done, and nothing is joined
  pub clear_right : (table : List ℕ) → Right (cleared (2 * n) table) n
  clear_right table = record {
    can_sound = λ s q a b c d h. absurd (omega arith);
    can_complete = λ s q a b c d h. absurd (omega arith);
    can_above = λ s q a b c. absurd (omega arith);
    below_sound = λ s q a b c d h. absurd (never s q a b h);
    below_complete = λ s q a b c d h. absurd (omega (arith, h.done, h.inside.last));
  }
    where
      none : (s : ℕ) → 1 ≤ s → s ≤ n → below (cleared (2 * n) table) s ≡ 0
      none s a b = unfold cell in clear_get (2 * n) table (2 * (s - 1) + 1) (omega arith)

      never : (s q : ℕ) → 1 ≤ s → s ≤ n → has_bit (below (cleared (2 * n) table) s) q ≡ true → ⊥
      never s q a b h =
          let z : false ≡ true = sym (zero_bit q) ∙ ap (λ (x : ℕ). has_bit x q) (sym (none s a b)) ∙ h in
          let y : ◌≡◌ {A = ℕ} 0 1 = cc in omega arith

  module _ (tree : Facts n e) (twig : Facts m w) where
    pub right_fits : (table : List ℕ) → Right table 0 → (q t : ℕ) → 1 ≤ q → q ≤ m → 1 ≤ t → t ≤ n
        → (has_bit (can table t) q ≡ true) ↔ PartFits n e w q t
    right_fits table ok q t a b c d = (
      λ h. match_fits n m e w twig q t a b (ok.can_sound t q c d a b h),
      λ h. ok.can_complete t q c d a b (fits_match n m e w twig q t a b h),
    )
