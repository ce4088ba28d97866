-- One trial of a routing step (Reference Manual volume II, chapter 3: successive approximations).
use Rattle.std.specs.Prelude.{◌≡◌, ℕ, ◌+◌, ◌<◌, ◌⊎◌, ℤ, pos, ◌≤ℤ◌, Bool, List, if◌then◌else◌}
use Rattle.std.specs.Int.RustNames.{unsigned_abs}
use Rattle.fixed_num.specs.Lists.{number, list_of}
use Rattle.fixed_num.specs.Sums.{below, at, least_below}
use Rattle.phase_law.specs.Law.{Law}
use Rattle.phase_law.specs.declared.values.LinkFixed.{LinkFixed}
use Rattle.phase_law.specs.declared.values.NodeFixed.{NodeFixed}
use Rattle.phase_law.specs.declared.values.NodeNext.{NodeNext}
use Rattle.phase_law.specs.declared.values.Share.{Share}
use Rattle.trial_model.specs.declared.nets.Nets.{Nets}
use Rattle.trial_model.specs.Fits.{link_fixed_at, node_fixed_at}
use Rattle.trial_model.specs.Flow.{forward, backward}

-- the sum of f over the links that begin at a node, and over those that end there
abbrev pub over_begins : Law → (ℕ → ℕ) → ℕ → ℕ
over_begins law f n = below (λ l. at (law.ends l).0 (f l) n) law.links

abbrev pub over_ends : Law → (ℕ → ℕ) → ℕ → ℕ
over_ends law f n = below (λ l. at (law.ends l).1 (f l) n) law.links

-- a node's inflow: forward flows of links that end there, and backward flows of links that begin there
abbrev pub inflow_of : Law → (ℕ → ℤ) → ℕ → ℕ
inflow_of law flow n = over_ends law (λ l. forward (flow l)) n + over_begins law (λ l. backward (flow l)) n

-- its outflow: forward flows of links that begin there, and backward flows of links that end there
abbrev pub outflow_of : Law → (ℕ → ℤ) → ℕ → ℕ
outflow_of law flow n = over_begins law (λ l. forward (flow l)) n + over_ends law (λ l. backward (flow l)) n

-- its area: the first area of links that begin there, and the second of links that end there
abbrev pub area_of : Law → (ℕ → Share) → ℕ → ℕ
area_of law share n =
    over_begins law (λ l. unsigned_abs (share l).area1) n + over_ends law (λ l. unsigned_abs (share l).area2) n

-- a link's share, from the heads at its ends and its last flow
abbrev pub share_of : Law → List LinkFixed → List ℤ → List ℤ → Bool → ℕ → Share
share_of law links heads flows first l =
    law.share l (link_fixed_at links l) first (number heads (law.ends l).0) (number heads (law.ends l).1)
    (number flows l)

-- a node's next head, from what it gets of its links and its last head
abbrev pub next_of : Law → List NodeFixed → Bool → List ℤ → List ℤ → List ℤ → List ℤ → ℕ → NodeNext
next_of law nodes first inflows outflows areas heads n =
    law.next n (node_fixed_at nodes n) first (number inflows n) (number outflows n) (number areas n) (number heads n)

-- one for a node that isn't settled
abbrev pub unsettled_part : Bool → ℕ
unsettled_part settled = if settled then 0 else 1

-- the share of a link in a trial of a state
abbrev pub share_in : Law → Nets → Bool → ℕ → Share
share_in law s first = share_of law s.links s.heads s.flows first

-- a trial's links: the flows of their shares, the sums of the shares at each node, the heads that were read, and the
-- least travel time (ms)
unfoldable pub with_flows : Law → Nets → Bool → Nets
with_flows law s first = record s {
  flows = list_of (λ l. (share_in law s first l).q) law.links;
  inflows = list_of (λ n. pos (inflow_of law (λ l. (share_in law s first l).q) n)) law.nodes;
  outflows = list_of (λ n. pos (outflow_of law (λ l. (share_in law s first l).q) n)) law.nodes;
  areas = list_of (λ n. pos (area_of law (share_in law s first) n)) law.nodes;
  read_heads = s.heads;
  least = least_below (pos 3_600_000) (λ l. (share_in law s first l).time) law.links;
}

-- the next head of a node in a trial, from the sums of its links and the head that was read
abbrev pub next_in : Law → Nets → Bool → ℕ → NodeNext
next_in law t first = next_of law t.nodes first t.inflows t.outflows t.areas t.read_heads

-- a trial of a state
unfoldable pub trial : Law → Nets → Bool → Nets
trial law s first =
    let t = with_flows law s first in
    record t { heads = list_of (λ n. (next_in law t first n).head) law.nodes }

-- the number of nodes that the law calls not settled in this trial
unfoldable pub unsettled_in : Law → Nets → Bool → ℕ
unsettled_in law s first =
    let t = with_flows law s first in
    below (λ n. unsettled_part (next_in law t first n).settled) law.nodes

-- a state's inflows and outflows are the sums over its own flows
pub record SumsOf (law : Law) (s : Nets) : Type 0 where
  pub inflows : (n : ℕ) → n < law.nodes → number s.inflows n ≡ pos (inflow_of law (number s.flows) n)
  pub outflows : (n : ℕ) → n < law.nodes → number s.outflows n ≡ pos (outflow_of law (number s.flows) n)

-- the least of `most` and f 0, .., f (n - 1): none of them is less, and it is one of them
pub record IsLeast (most : ℤ) (f : ℕ → ℤ) (n : ℕ) (least : ℤ) : Type 0 where
  pub within : least ≤ℤ most
  pub each : (k : ℕ) → k < n → least ≤ℤ f k
  pub one : (least ≡ most) ⊎ ((k : ℕ) × (k < n) × (least ≡ f k))
