-- What demand 2 speaks of: a tree yields a list; and the public turns that a check is made of.
--   Words s          a list of sixteen-bit numbers
--   Yields k s       a tree of kind k yields the list s as its signature
--   Exactly k s P    P exactly if a tree of kind k yields s
--   Ended k s B P    the same of turns that may spend B steps in all: P says that a tree yields s, and 2×n steps are enough for P
--   Turns k s st B K r   public turns of the check of s from st: budgets B and steps K in all, the last one answered r
use Rattle.std.specs.Prelude.{ℕ, ◌*◌, ◌<◌, ◌≤◌, ◌≡◌, List, get_or}
use Rattle.turns.specs.Chains.{Chain}
use Rattle.trees.specs.Tree.{Tree, Grown}
use Rattle.trees.specs.Signature.{signature, entries}
use Rattle.terms.specs.declared.Kind.{Kind}
use Rattle.checking.specs.declared.CheckState.{CheckState}
use Rattle.terms.specs.Kinds.{any_name, most}
use Rattle.checking.specs.Turn.{TurnPromise}
use Rattle.terms.specs.declared.Turn.{Turn}

-- "sixteen-bit numbers"
abbrev pub Words : List ℕ → Type 0
Words s = (i : ℕ) → get_or s i 0 < 65536

-- a data tree, or a twig, yields the list
pub record Yields (k : Kind) (s : List ℕ) : Type 0 where
  pub tree : Tree
  pub grown : Grown (any_name k) (most k) tree
  pub is : s ≡ signature tree

-- what is said holds exactly if a tree of kind k yields the list
pub record Exactly (k : Kind) (s : List ℕ) (Said : Type 0) : Type 0 where
  pub sound : Said → Yields k s
  pub complete : Yields k s → Said

-- turns that may spend B steps in all say it only if a tree yields the list, and with 2×n steps to spend they do if one does
pub record Ended (k : Kind) (s : List ℕ) (B : ℕ) (Said : Type 0) : Type 0 where
  pub sound : Said → Yields k s
  pub complete : 2 * entries s ≤ B → Yields k s → Said

-- any chain of public turns, with any budgets, each given the state that the one before handed back
abbrev pub Turns : Kind → List ℕ → CheckState → ℕ → ℕ → Turn CheckState → Type 0
Turns k s st B K r = Chain CheckState (Turn CheckState) (λ b from t. TurnPromise k s b from t) (λ t. t.state) (λ t. t.steps) st B K r
