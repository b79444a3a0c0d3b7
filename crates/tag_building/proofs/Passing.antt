-- The loop that judges and builds at once: what holds at each tag, and what it comes to.
--   faulty, faultless   what a test came to, by whether it is a fault
--   starts_open      at the start no root is closed
--   Passing          what was asked at the start is what is still asked here, and the tags passed are built
--   passing_…        it begins so, goes on so with each tag, and ends or refuses so
use Prim.Native.Nat.{ℕ, ◌+◌, ◌-◌, ◌*◌, ◌≤◌}
use mathlib.Core.Path.{◌≡◌, refl, ap, ◌∙◌, sym, subst}
use mathlib.Core.Bool.{Bool, true, false}
use mathlib.Core.List.{List}
use native.Mathlib.Omega.{arith}
use lib.ListN.{length}
use Rattle.std.specs.Prelude.{Ok, Err, Result}
use Rattle.std.specs.Result.{is_err}
use Rattle.terms.specs.Faults.{tested, some_number}
use Rattle.terms.specs.declared.Fault.{Fault}
use Rattle.bytes_read.specs.Bytes.{number_at}
use Rattle.bytes_read.specs.Scans.{Scan, begin}
use Rattle.bytes_read.proofs.Scanning.{Going, going_start, going_end, going_fault, going_next}
use Rattle.tag_scan.specs.TagLists.{opening, tag_fault, tag_next, tree_end}
use Rattle.tag_scan.proofs.TagFaults.{closed_open, closed_none, closed_is, end_open, end_closed, Opened, Closed, opened_of, closed_of_law}
use Rattle.tag_building.specs.Builds.{open_room, close_room, parent_in}
use Rattle.tag_building.specs.Filled.{BuiltPromise}
use Rattle.tag_building.proofs.Build.{Built, built_start, built_end, built_open, built_close}
use Rattle.tag_building.proofs.Filling.{reading_tags}

pub faulty : (v : Result Unit Fault) → is_err v ≡ true → tested v ≡ 0 → ⊥
faulty (Ok u) h z = cc
faulty (Err f) h z = some_number f z

pub faultless : (v : Result Unit Fault) → is_err v ≡ false → tested v ≡ 0
faultless (Ok u) h = refl
faultless (Err f) h = cc

-- at the start no root is closed
pub starts_open : (all : Bool) (b : List ℕ) (p : ℕ) → tree_end all b (begin p) ≡ false
starts_open all b p = end_open all b (begin p) (closed_none (begin p) (omega arith))

module _ (all any : Bool) (m : ℕ) (b : List ℕ) (p : ℕ) (room₀ : List ℕ) where
  abbrev Goes : Scan → Type 0
  Goes st = Going (tree_end all b) (tag_fault any m b) (tag_next b) (length b) (begin p) st

  -- of the elements opened so far, those that are not open are closed
  pub record Passing (room : List ℕ) (st : Scan) (top : ℕ) : Type 0 where
    pub going : Goes st
    pub made : Built b p room₀ room st.at st.count top (st.count - st.depth)
    pub nested : st.depth ≤ st.count
    pub few : st.count ≤ m

  pub passing_start : Passing room₀ (begin p) 0
  passing_start = record { going = going_start _ _ _ _ _; made = built_start b p room₀; nested = omega arith; few = omega arith }

  module _ (room : List ℕ) (st : Scan) (top : ℕ) (s : Passing room st top) where
    pub passing_end : (e : Bool) → e ≡ tree_end all b st → e ≡ true → 4 * m ≤ length room₀ → BuiltPromise all any m b p room₀ 0 st.at st.count room
    passing_end e ended y l =
        let e = sym ended ∙ y in
        let came = going_end _ _ _ _ _ _ s.going e in
        let z = closed_is st (end_closed all b _ e) in
        let c = ap (λ (x : Scan). x.count) came.state in
        record {
          place = ap (λ (x : Scan). x.at) came.state;
          count = c;
          number = came.number_is;
          few = s.few;
          built = λ w. built_end _ _ _ _ _ _ _ _ s.made (omega (arith, z.0)) (reading_tags all any m b p st.count c (sym came.number_is))
              (omega (arith, s.few));
        }

    -- v is what the test of the tag here came to, r whether it is a fault
    module _ (goes_on : tree_end all b st ≡ false) (v : Result Unit Fault) (told : tested v ≡ tag_fault any m b st) (r : Bool) (bad : r ≡ is_err v) where
      pub passing_fault : r ≡ true → BuiltPromise all any m b p room₀ (tested v) st.at st.count room
      passing_fault y =
          let n = faulty v (sym bad ∙ y) in
          let came = going_fault _ _ _ _ _ _ _ s.going goes_on told n in
          record {
            place = ap (λ (x : Scan). x.at) came.state;
            count = ap (λ (x : Scan). x.count) came.state;
            number = came.number_is;
            few = s.few;
            built = λ z. absurd (n z);
          }

      -- t is whether its mark opens
      module _ (fine : r ≡ false) (t : Bool) (mark : t ≡ opening b st.at) where
        none : tested v ≡ 0
        none = faultless v (sym bad ∙ fine)

        pub opened_here : t ≡ true → Opened any m b st
        opened_here y = opened_of any m b st told none mark y

        pub closed_here : t ≡ false → Closed any m b st
        closed_here n = closed_of_law any m b st told none mark n

        pub passing_open : t ≡ true → (name : ℕ) (after : List ℕ) → name ≡ number_at b (st.at + 2) → after ≡ open_room room st.count name top
            → Passing after (record { at = st.at + 4; depth = st.depth + 1; count = st.count + 1 }) (st.count + 1)
            × (tree_end all b (record { at = st.at + 4; depth = st.depth + 1; count = st.count + 1 }) ≡ false)
        passing_open y name after e q =
            let o = opened_here y in
            let d : st.count - st.depth ≡ st.count + 1 - (st.depth + 1) = omega arith in (
              record {
                going = going_next _ _ _ _ _ _ _ s.going goes_on (sym told ∙ none) (sym o.is) (omega (arith, o.body)) (omega arith);
                made = subst (Built b p room₀ after (st.at + 4) (st.count + 1) (st.count + 1)) d (built_open _ _ _ _ _ _ _ _ s.made name after o.opens_here e q);
                nested = omega (arith, s.nested);
                few = omega (arith, o.few);
              },
              end_open all b _ (closed_open (record { at = st.at + 4; depth = st.depth + 1; count = st.count + 1 }) (λ z. omega (arith, z))),
            )

        pub passing_close : t ≡ false → (up : ℕ) (after : List ℕ) → up ≡ parent_in room top
            → after ≡ close_room room top (st.count - st.depth + 1) (st.count + 1)
            → Passing after (record { at = st.at + 2; depth = st.depth - 1; count = st.count }) up
        passing_close n up after e q =
            let o = closed_here n in
            let d : st.count - st.depth + 1 ≡ st.count - (st.depth - 1) = omega (arith, o.some_open, s.nested) in
            record {
              going = going_next _ _ _ _ _ _ _ s.going goes_on (sym told ∙ none) (sym o.is) (omega (arith, o.mark)) (omega arith);
              made = subst (Built b p room₀ after (st.at + 2) st.count up) d (built_close _ _ _ _ _ _ _ _ s.made up after o.opens_not e q);
              nested = omega (arith, s.nested);
              few = s.few;
            }
