-- A law for tests: forty links from node 1 to node 0, each with the same share; the nodes keep their heads.
use Rattle.std.specs.Prelude.{pos, true}
use Rattle.std.proofs.Common.{arith}
use Rattle.std.proofs.lemmas.Int.{ints}
use Rattle.phase_law.specs.Law.{Law}
use Rattle.phase_law.specs.Laws.{IsLaw}

abbrev pub forty_links : Law
forty_links = record {
  nodes = 2;
  links = 40;
  limit = 1_000_000;
  ends = λ _. (1, 0);
  share = λ _ _ _ _ _ _. record { q = pos 7; area1 = pos 1; area2 = pos 2; time = pos 3_600_000 };
  next = λ _ _ _ _ _ _ last. record { head = last; settled = true };
}

pub forty_links_good : IsLaw forty_links
forty_links_good = record {
  few_nodes = omega arith;
  few_links = omega arith;
  limit_least = omega arith;
  limit_most = omega arith;
  ends_in = λ link h. record { first = omega arith; second = omega arith; differ = λ e. omega arith };
  share_in = λ link fixed first near far last h1 h2 h3 h4 h5. record {
    flow = record { within = omega arith };
    area1 = record { from = omega (arith, ints); to = omega (arith, ints) };
    area2 = record { from = omega (arith, ints); to = omega (arith, ints) };
    time = record { from = omega (arith, ints); to = omega (arith, ints) };
  };
  next_in = λ node fixed first inflow outflow area last h1 h2 h3 h4. h4;
}
