-- The question tells the same whatever the room held at first: two states that agree in all but the numbers that are not written yet take the same steps.
--   Agree q t l k  two rooms hold the same numbers behind node q and entry t
--   Alike q t s l k   one state with two such rooms
--   Together st to k, Reached c st to k   where one step, and c steps, lead from the one, they lead from the other
--   alike_moves    steps from two such states lead to two such states
--   fresh_alike    two questions that begin are alike
use Rattle.std.specs.Prelude.{ℕ, zero, suc, ◌+◌, ◌-◌, ◌*◌, ◌≤◌, ◌<◌, Bool, List, ltb, length, set}
use Rattle.std.proofs.Math.Path.{◌≡◌, refl, sym}
use Rattle.std.proofs.Common.{ap, ◌∙◌, subst, inl, inr, ⊎_elim, arith, length-set, get_or-set_same}
use Rattle.std.proofs.Math.Bool.{true, false}
use Rattle.std.proofs.lemmas.Bool.{false≢true}
use Rattle.std.proofs.Math.Decide.{ℕ_discrete, dec_lt}
use Rattle.turns.specs.Pick.{pick}
use Rattle.turns.specs.Turn.{moved, refused, Moves, stay, move}
use Rattle.trees.specs.Signature.{Entries}
use Rattle.trees.specs.Facts.{Facts}
use Rattle.ordering.specs.Table.{index, ends_in, one_of}
use Rattle.ordering.specs.Filling.{Behind, index_within, ends_kept, one_same}
use Rattle.ordering.specs.Cases.{read_none, read_at, read_past}
use Rattle.fits_rows.specs.declared.Stage.{Stage}
use Rattle.ordering.specs.Twig.{bad_end}
use Rattle.fits_rows.specs.Fitting.{Fitting, at, told, told_by, is_yes, goes_on, fit_step}
use Rattle.fits_rows.specs.FittingLaws.{Goes, says_yes, goes_back, says_no, next_row_law, goes_of, Ranged, left_of, step_goes, step_within}

module _ (n : ℕ) (e : Entries) (m : ℕ) (w : Entries) (twig : Facts m w) where
  -- what is read later of two rooms is the same
  abbrev pub Agree : ℕ → ℕ → List ℕ → List ℕ → Type 0
  Agree q t l k = (p b : ℕ) → p ≤ m → Behind q t p b → ends_in n l p b ≡ ends_in n k p b

  -- one state with two rooms that agree behind it, while it is asking
  pub record Alike (q t : ℕ) (s : Stage) (l k : List ℕ) : Type 0 where
    pub ranged : Ranged n m (at q t s l)
    pub long : m * n ≤ length l
    pub other_long : m * n ≤ length k
    pub agree : told_by s ≡ false → Agree q t l k

  -- ---- one step

  module _ (q t : ℕ) (l k : List ℕ) (a : Alike q t Stage.Asking l k) where
    abbrev v : ℕ
    v = one_of n e m w l q t

    -- both write the same number
    same_number : one_of n e m w l q t ≡ one_of n e m w k q t
    same_number = one_same n e m w twig l k q t (a.agree refl) q t a.ranged.node_low a.ranged.node_high (inr (refl, omega arith))

    reads : (l : List ℕ) → m * n ≤ length l → ends_in n (set l (index n q t) v) q t ≡ v
    reads l long =
        sym (read_at n (set l (index n q t) v) q t (λ o. omega (arith, a.ranged.node_low)) a.ranged.entry_high)
        ∙ get_or-set_same l (index n q t) v 0 (omega (arith, long, index_within n m q t a.ranged.node_low a.ranged.node_high a.ranged.entry_low a.ranged.entry_high))

    -- and so agree from one number further on
    agree_on : Agree q (t - 1) (set l (index n q t) v) (set k (index n q t) v)
    agree_on p b high h = by (ℕ_discrete q p) (ℕ_discrete t b)
      where
        keep : (i : List ℕ) → Behind q t p b → ends_in n (set i (index n q t) v) p b ≡ ends_in n i p b
        keep i o = ends_kept n i q t v a.ranged.node_low a.ranged.entry_low a.ranged.entry_high p b (inr o)

        later : Behind q t p b → ends_in n (set l (index n q t) v) p b ≡ ends_in n (set k (index n q t) v) p b
        later o = keep l o ∙ a.agree refl p b high o ∙ sym (keep k o)

        by : Dec (q ≡ p) → Dec (t ≡ b) → ends_in n (set l (index n q t) v) p b ≡ ends_in n (set k (index n q t) v) p b
        by (yes c) (yes d) = rw (sym c, sym d) (reads l a.long ∙ sym (reads k a.other_long))
        by (yes c) (no d) = later (⊎_elim (λ (x : q < p). inl x) (λ (x : (q ≡ p) × (t - 1 < b)). inr (x.0, omega arith)) h)
        by (no c) d = later (⊎_elim (λ (x : q < p). inl x) (λ (x : (q ≡ p) × (t - 1 < b)). absurd (c x.0)) h)

  -- ---- a row that is done

  -- entry 0 reads as entry 1
  first_zero : (l : List ℕ) (q : ℕ) → 1 ≤ q → 1 ≤ n → ends_in n l q 0 ≡ ends_in n l q 1
  unfolding index
  first_zero l q some low = sym (read_at n l q 0 (λ o. omega arith) (omega arith)) ∙ read_at n l q 1 (λ o. omega arith) low

  row_agree : (q : ℕ) (l k : List ℕ) → 1 ≤ q → 1 ≤ n → Agree q 0 l k → Agree (q - 1) n l k
  row_agree q l k some low agree zero b high (inr h) = sym (read_none n l 0 b refl) ∙ read_none n k 0 b refl
  row_agree q l k some low agree (suc p) b high (inr h) =
      sym (read_past n l (suc p) b (λ o. omega arith) h.1) ∙ read_past n k (suc p) b (λ o. omega arith) h.1
  row_agree q l k some low agree p b high (inl h) = by (dec_lt q p) b refl
    where
      by : Dec (q < p) → (j : ℕ) → b ≡ j → ends_in n l p b ≡ ends_in n k p b
      by (yes o) j z = agree p b high (inl o)
      by (no o) (suc j) z = agree p b high (inr (omega arith, omega arith))
      by (no o) zero z =
          rw z (first_zero l p (omega arith) low ∙ agree p 1 high (inr (omega arith, omega arith)) ∙ sym (first_zero k p (omega arith) low))

  -- ---- where a step leads from the one, it leads from the other

  pub record Together (st to : Fitting) (k : List ℕ) : Type 0 where
    pub room : List ℕ
    pub goes : fit_step n e m w (at st.node st.entry st.stage k) ≡ moved (at to.node to.entry to.stage room)
    pub alike : Alike to.node to.entry to.stage to.room room

  -- the four ways on, by the tests
  abbrev way : ℕ → ℕ → Bool → Bool → Bool → List ℕ → Fitting
  way q t a b c r = pick a (at q t Stage.Yes r) (pick b (at q (t - 1) Stage.Asking r) (pick c (at q t Stage.No r) (at (q - 1) n Stage.Asking r)))

  -- the way on does not look at the room
  goes_room : (q t v : ℕ) (l k : List ℕ) → goes_on n q t v k ≡ at (goes_on n q t v l).node (goes_on n q t v l).entry (goes_on n q t v l).stage k
  unfolding goes_on
  goes_room q t v l k = by (is_yes n q v) (ltb 1 t) (ltb (n + 1) v)
    where
      by : (a b c : Bool) → way q t a b c k ≡ at (way q t a b c l).node (way q t a b c l).entry (way q t a b c l).stage k
      by true b c = refl
      by false true c = refl
      by false false true = refl
      by false false false = refl

  not_bad : (q t : ℕ) (l : List ℕ) (to : Fitting) → fit_step n e m w (at q t Stage.Asking l) ≡ moved to → bad_end n e t ≡ false
  unfolding fit_step
  not_bad q t l to = go (bad_end n e t) refl
    where
      go : (b : Bool) → bad_end n e t ≡ b
          → pick b (refused 11 0) (moved (goes_on n q t (one_of n e m w l q t) (set l (index n q t) (one_of n e m w l q t)))) ≡ moved to → bad_end n e t ≡ false
      go true h q = let z : ◌≡◌ {A = ℕ} 0 1 = cc in absurd (omega arith)
      go false h q = h

  step_is : (q t : ℕ) (l : List ℕ) → bad_end n e t ≡ false
      → fit_step n e m w (at q t Stage.Asking l) ≡ moved (goes_on n q t (one_of n e m w l q t) (set l (index n q t) (one_of n e m w l q t)))
  unfolding fit_step
  step_is q t l h = simp h

  together : (q t : ℕ) (l k : List ℕ) (to : Fitting) → Alike q t Stage.Asking l k → fit_step n e m w (at q t Stage.Asking l) ≡ moved to
      → Together (at q t Stage.Asking l) to k
  together q t l k to a s = record {
    room = set k (index n q t) x;
    goes = step_is q t k (not_bad q t l to s)
        ∙ ap (λ (i : ℕ). moved (goes_on n q t i (set k (index n q t) i))) (sym (same_number q t l k a))
        ∙ ap moved (goes_room q t x (set l (index n q t) x) (set k (index n q t) x))
        ∙ ap (λ (st : Fitting). moved (at st.node st.entry st.stage (set k (index n q t) x))) (sym (step_goes n e m w (at q t Stage.Asking l) to s));
    alike = by to (subst (Goes n q t x (set l (index n q t) x)) (sym (step_goes n e m w (at q t Stage.Asking l) to s)) (goes_of n q t x (set l (index n q t) x)))
        (step_within n e m w (at q t Stage.Asking l) to refl s a.ranged);
  }
    where
      x : ℕ
      x = one_of n e m w l q t

      behind : t ≤ 1 → Agree (q - 1) n (set l (index n q t) (one_of n e m w l q t)) (set k (index n q t) (one_of n e m w l q t))
      behind h =
          let z : t - 1 ≡ 0 = omega arith in
          row_agree q (set l (index n q t) x) (set k (index n q t) x) a.ranged.node_low (omega (arith, a.ranged.entry_low, a.ranged.entry_high))
          (subst (λ (i : ℕ). Agree q i (set l (index n q t) x) (set k (index n q t) x)) z (agree_on q t l k a))

      long : m * n ≤ length (set l (index n q t) (one_of n e m w l q t))
      long = omega (arith, a.long, length-set l (index n q t) x)

      other : m * n ≤ length (set k (index n q t) (one_of n e m w l q t))
      other = omega (arith, a.other_long, length-set k (index n q t) x)

      by : (to : Fitting) → Goes n q t (one_of n e m w l q t) (set l (index n q t) (one_of n e m w l q t)) to
          → Ranged n m to × (left_of n to + 1 ≡ left_of n (at q t Stage.Asking l)) × (length to.room ≡ length l)
          → Alike to.node to.entry to.stage to.room (set k (index n q t) (one_of n e m w l q t))
      by to (says_yes h g) r = record { ranged = r.0; long = long; other_long = other; agree = λ f. absurd (false≢true (sym f)) }
      by to (says_no h g) r = record { ranged = r.0; long = long; other_long = other; agree = λ f. absurd (false≢true (sym f)) }
      by to (goes_back h g) r = record { ranged = r.0; long = long; other_long = other; agree = λ f. agree_on q t l k a }
      by to (next_row_law h g) r = record { ranged = r.0; long = long; other_long = other; agree = λ f. behind h }

  -- any number of steps
  pub record Reached (c : ℕ) (st to : Fitting) (k : List ℕ) : Type 0 where
    pub room : List ℕ
    pub moves : Moves Fitting told (fit_step n e m w) c (at st.node st.entry st.stage k) (at to.node to.entry to.stage room)

  pub alike_moves : {c : ℕ} {st to : Fitting} → Moves Fitting told (fit_step n e m w) c st to → (k : List ℕ)
      → Alike st.node st.entry st.stage st.room k → Reached c st to k
  alike_moves stay k a = record { room = k; moves = stay }
  alike_moves (move {st = st} {mid = mid} f s x) k a =
      let r = asking st.stage refl f in
      let o = alike_moves x r.room r.alike in
      record { room = o.room; moves = move f r.goes o.moves }
    where
      asking : (g : Stage) → st.stage ≡ g → told st ≡ false → Together st mid k
      asking Stage.Yes z f = absurd (false≢true (sym f ∙ ap told_by z))
      asking Stage.No z f = absurd (false≢true (sym f ∙ ap told_by z))
      asking Stage.Asking z f =
          let u : st ≡ at st.node st.entry Stage.Asking st.room = ap (λ (g : Stage). at st.node st.entry g st.room) z in
          let r = together st.node st.entry st.room k mid (subst (λ (g : Stage). Alike st.node st.entry g st.room k) z a)
          (ap (fit_step n e m w) (sym u) ∙ s) in
          record {
            room = r.room;
            goes = ap (λ (g : Stage). fit_step n e m w (at st.node st.entry g k)) z ∙ r.goes;
            alike = r.alike;
          }

  -- "asking, whatever the room holds"
  pub fresh_alike : (l k : List ℕ) → 1 ≤ m → 1 ≤ n → m * n ≤ length l → m * n ≤ length k → Alike m n Stage.Asking l k
  fresh_alike l k some low long other = record {
    ranged = record { node_low = some; node_high = omega arith; entry_low = low; entry_high = omega arith; stage_fits_law = refl };
    long = long;
    other_long = other;
    agree = λ f p b high h. behind p b high h;
  }
    where
      behind : Agree m n l k
      behind p b high (inl h) = absurd (omega arith)
      behind p b high (inr h) =
          sym (read_past n l p b (λ o. omega (arith, h.0)) h.1) ∙ read_past n k p b (λ o. omega (arith, h.0)) h.1
