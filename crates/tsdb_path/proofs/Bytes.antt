-- Which bytes a node and a path may have.
use Rattle.std.proofs.Common.{◌≡◌, ◌≢◌, ℕ, Bool, true, false, ◌||◌, eqb, eqb-true, List, refl, ap, subst, ◌∙◌}
use Rattle.std.specs.Prelude.{IsTrue, All}
use Rattle.std.proofs.lemmas.Bool.{false≢true}
use Rattle.std.proofs.lemmas.List.Elements.{All-weaker}
use Rattle.tsdb_path.specs.Nodes.{dot, is_node_byte, is_path_byte, IsNode}

-- a byte for which the test of a node's bytes fails is no byte of a node
pub is_node_byte-other : (b c : ℕ) → is_node_byte c ≡ false → IsTrue (is_node_byte b) → eqb b c ≡ false
is_node_byte-other b c other node = elim (eqb b c) as (λ t. eqb b c ≡ t → t ≡ false) [
  | true ↦ λ e. absurd (false≢true (subst (λ t. IsTrue t) (ap is_node_byte (eqb-true b c e) ∙ other) node))
  | false ↦ λ e. refl
] refl

-- no byte of a node is a dot
pub IsNode-dotless : (bytes : List ℕ) → IsNode bytes → All (λ b. eqb b dot ≡ false) bytes
IsNode-dotless bytes node = All-weaker _ _ (λ b fits. is_node_byte-other b dot refl fits) bytes node.letters

or_left : (s t : Bool) → IsTrue s → IsTrue (s || t)
or_left true t h = refl
or_left false t h = cc

-- bytes of nodes are bytes of paths
pub is_path_byte-node : (b : ℕ) → IsTrue (is_node_byte b) → IsTrue (is_path_byte b)
is_path_byte-node b node = or_left (is_node_byte b) (eqb b dot) node
