-- What the links of a project have at each node: the words of the walk over the links.
use Rattle.std.specs.Prelude.{ℕ, ◌+◌, ◌==◌, if◌then◌else◌, List, slice_index_or, ℤ, pos, ◌+ℤ◌}
use Rattle.std.specs.Int.{int_max}
use Rattle.net_types.specs.declared.network.Link.{Link}
use Rattle.project_check.specs.declared.ends.NodeEnds.{NodeEnds}
use Rattle.project_check.specs.FullHeight.{conduit_height, first_offset, highest_top, second_offset}
use Rattle.project_check.specs.Network.{link_ends, links_from}

-- the ends of links at a node, the links that begin there, and the highest top of its conduits
abbrev pub ends_of : List Link → ℕ → NodeEnds
ends_of links node =
    record { ends = link_ends links node; begins = links_from links node; top = highest_top node links }

abbrev pub no_ends : NodeEnds
no_ends = record { ends = 0; begins = 0; top = pos 0 }

abbrev pub node_ends_at : List NodeEnds → ℕ → NodeEnds
node_ends_at list node = slice_index_or list node no_ends

-- the same with one end more, which is the beginning of so many links, and has this top
abbrev pub with_end : NodeEnds → (begins : ℕ) → (top : ℤ) → NodeEnds
with_end e begins top = record { ends = e.ends + 1; begins = e.begins + begins; top = int_max e.top top }

-- the same at a node, with both ends of a link
abbrev pub with_first : NodeEnds → Link → ℕ → NodeEnds
with_first e link n =
    if n == link.first then with_end e 1 (first_offset link.kind +ℤ conduit_height link.kind link.section) else e

abbrev pub with_link : NodeEnds → Link → ℕ → NodeEnds
with_link e link n =
    let first = with_first e link n in
    if n == link.second then with_end first 0 (second_offset link.kind +ℤ conduit_height link.kind link.section)
    else first
