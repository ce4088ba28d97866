-- A law for tests: links from node 1 to node 0, each with the same share; the nodes keep their heads.
use Rattle.std.specs.Prelude.{ℕ, ◌≤◌}
use Rattle.std.proofs.Common.{arith}
use Rattle.std.proofs.lemmas.Int.{ints}
use Rattle.phase_law.specs.FortyLinks.{forty_links, forty_links_good}
use Rattle.phase_law.specs.Law.{Law}
use Rattle.phase_law.specs.Laws.{IsLaw}

abbrev pub equal_links : ℕ → Law
equal_links links = record forty_links { links = links }

pub equal_links_good : (links : ℕ) → links ≤ 20_000 → IsLaw (equal_links links)
equal_links_good links few = record {
  few_nodes = forty_links_good.few_nodes;
  few_links = few;
  limit_least = forty_links_good.limit_least;
  limit_most = forty_links_good.limit_most;
  ends_in = λ link h. record { first = omega arith; second = omega arith; differ = λ e. omega arith };
  share_in = λ link fixed first near far last h1 h2 h3 h4 h5. record {
    flow = record { within = omega arith };
    area1 = record { from = omega (arith, ints); to = omega (arith, ints) };
    area2 = record { from = omega (arith, ints); to = omega (arith, ints) };
    time = record { from = omega (arith, ints); to = omega (arith, ints) };
  };
  next_in = λ node fixed first inflow outflow area last h1 h2 h3 h4. h4;
}
