-- What the network of a project is: its outfalls, and which ends of links are at a node.
use Rattle.std.specs.Prelude.{ℕ, ◌+◌, eqb, Bool, true, false, if◌then◌else◌, List, sum_by, IsTrue}
use Rattle.std.specs.List.{Any, list_any}
use Rattle.net_types.specs.declared.network.Link.{Link}
use Rattle.net_types.specs.declared.network.Node.{Node}
use Rattle.net_types.specs.declared.network.NodeKind.{NodeKind}
use Rattle.net_types.specs.declared.network.NodeKind.TheVariants.{Junction, Outfall, Storage}

abbrev pub is_outfall_kind : NodeKind → Bool
is_outfall_kind (Junction surcharge pond) = false
is_outfall_kind (Outfall stage gated) = true
is_outfall_kind (Storage shape) = false

abbrev pub is_storage_kind : NodeKind → Bool
is_storage_kind (Junction surcharge pond) = false
is_storage_kind (Outfall stage gated) = false
is_storage_kind (Storage shape) = true

-- the node is an outfall, or a storage
abbrev pub is_outfall : Node → Bool
is_outfall node = is_outfall_kind node.kind

abbrev pub is_storage : Node → Bool
is_storage node = is_storage_kind node.kind

-- one of the nodes is an outfall
abbrev pub HasOutfall : List Node → Type 0
HasOutfall nodes = Any (λ node. IsTrue (is_outfall node)) nodes

-- the same as a test
abbrev pub has_outfall : List Node → Bool
has_outfall nodes = list_any is_outfall nodes

-- how many ends of a link are at a node, and whether it begins there
abbrev pub end_at : (node end : ℕ) → ℕ
end_at node end = if eqb node end then 1 else 0

abbrev pub ends_at : ℕ → Link → ℕ
ends_at node link = end_at node link.first + end_at node link.second

-- how many ends of links are at a node, one with equal ends counting twice, and how many links begin there
abbrev pub link_ends : List Link → ℕ → ℕ
link_ends links node = sum_by (ends_at node) links

abbrev pub links_from : List Link → ℕ → ℕ
links_from links node = sum_by (λ link. end_at node link.first) links
