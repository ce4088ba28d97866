-- A law for tests: two links in a row, 0 to 1 and 1 to 2, each with the same share; each node gets the head 500, and
-- the one in the middle alone is settled.
use Rattle.std.specs.Prelude.{◌+◌, eqb, pos}
use Rattle.std.proofs.Common.{arith}
use Rattle.std.proofs.lemmas.Int.{ints}
use Rattle.phase_law.specs.Law.{Law}
use Rattle.phase_law.specs.Laws.{IsLaw}

abbrev pub two_links : Law
two_links = record {
  nodes = 3;
  links = 2;
  limit = 1_000_000;
  ends = λ link. (link, link + 1);
  share = λ _ _ _ _ _ _. record { q = pos 7; area1 = pos 1; area2 = pos 2; time = pos 1_000 };
  next = λ node _ _ _ _ _ _. record { head = pos 500; settled = eqb node 1 };
}

pub two_links_good : IsLaw two_links
two_links_good = record {
  few_nodes = omega arith;
  few_links = omega arith;
  limit_least = omega arith;
  limit_most = omega arith;
  ends_in = λ link h. record { first = omega (arith, h); second = omega (arith, h); differ = λ e. omega (arith, e) };
  share_in = λ link fixed first near far last h1 h2 h3 h4 h5. record {
    flow = record { within = omega arith };
    area1 = record { from = omega (arith, ints); to = omega (arith, ints) };
    area2 = record { from = omega (arith, ints); to = omega (arith, ints) };
    time = record { from = omega (arith, ints); to = omega (arith, ints) };
  };
  next_in = λ node fixed first inflow outflow area last h1 h2 h3 h4. record { within = omega arith };
}
