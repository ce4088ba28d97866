-- The full height of a node: how high it stands full above its invert (Reference Manual volume II, chapter 3).
use Rattle.std.specs.Prelude.{◌≡◌, ℕ, eqb, if◌then◌else◌, List, [], ◌∷◌, map}
use Rattle.std.specs.Prelude.{Option, Some, None, ℤ, pos, ◌+ℤ◌, ◌≤ℤ◌, ◌⊎◌}
use Rattle.std.specs.Int.{int_max}
use Rattle.std.specs.List.{All, Contains}
use Rattle.net_types.specs.declared.network.Link.{Link}
use Rattle.net_types.specs.declared.network.LinkKind.{LinkKind}
use Rattle.net_types.specs.declared.network.LinkKind.TheVariants.{Conduit, Pump, Orifice, Weir}
use Rattle.net_types.specs.declared.network.NodeKind.{NodeKind}
use Rattle.net_types.specs.declared.network.NodeKind.TheVariants.{Junction, Outfall, Storage}
use Rattle.net_types.specs.declared.network.Section.{Section}
use Rattle.net_types.specs.declared.project.Project.{Project}
use Rattle.net_types.specs.Records.{node_at}

-- the offsets of a conduit at its two ends; other links have none
abbrev pub first_offset : LinkKind → ℤ
first_offset (Conduit long n6 z1 z2 q0 q_max entry6 exit6 avg6 flap) = z1
first_offset (Pump curve on startup shutoff) = pos 0
first_offset (Orifice bottom offset cd6 flap) = pos 0
first_offset (Weir notch crest cd6 flap contractions) = pos 0

abbrev pub second_offset : LinkKind → ℤ
second_offset (Conduit long n6 z1 z2 q0 q_max entry6 exit6 avg6 flap) = z2
second_offset (Pump curve on startup shutoff) = pos 0
second_offset (Orifice bottom offset cd6 flap) = pos 0
second_offset (Weir notch crest cd6 flap contractions) = pos 0

-- the full height of a section, and that of a conduit; other links raise no node
abbrev pub section_height : Option Section → ℤ
section_height (Some section) = section.full
section_height None = pos 0

abbrev pub conduit_height : LinkKind → Option Section → ℤ
conduit_height (Conduit long n6 z1 z2 q0 q_max entry6 exit6 avg6 flap) section = section_height section
conduit_height (Pump curve on startup shutoff) section = pos 0
conduit_height (Orifice bottom offset cd6 flap) section = pos 0
conduit_height (Weir notch crest cd6 flap contractions) section = pos 0

-- how high above a node's invert the top of a conduit stands that has this end there, and 0 at another end
abbrev pub end_top : (node end : ℕ) → (offset full : ℤ) → ℤ
end_top node end offset full = if eqb node end then offset +ℤ full else pos 0

-- the same for both ends of a link
unfoldable pub link_top : ℕ → Link → ℤ
link_top node link =
    int_max
    (end_top node link.first (first_offset link.kind) (conduit_height link.kind link.section))
    (end_top node link.second (second_offset link.kind) (conduit_height link.kind link.section))

-- the greatest of numbers, and 0 where none is greater
abbrev pub greatest_of : List ℤ → ℤ
greatest_of [] = pos 0
greatest_of (x ∷ xs) = int_max x (greatest_of xs)

-- x is that number: none of them is greater, and it is one of them or 0
pub record IsGreatest (numbers : List ℤ) (x : ℤ) : Type 0 where
  pub least : pos 0 ≤ℤ x
  pub most : All (λ y. y ≤ℤ x) numbers
  pub one : (x ≡ pos 0) ⊎ Contains numbers x

-- the highest top of the conduits that begin or end at a node
unfoldable pub highest_top : ℕ → List Link → ℤ
highest_top node links = greatest_of (map (link_top node) links)

-- a junction is full at the greater of its greatest depth and the highest top of its conduits, another node at its
-- greatest depth
abbrev pub kind_height : NodeKind → (y_max highest : ℤ) → ℤ
kind_height (Junction surcharge pond) y_max highest = int_max y_max highest
kind_height (Outfall stage gated) y_max highest = y_max
kind_height (Storage shape) y_max highest = y_max

-- the full height of a node of a project, in µm
abbrev pub full_height_of : Project → ℕ → ℤ
full_height_of project k =
    let node = node_at project.nodes k in kind_height node.kind node.y_max (highest_top k project.links)
