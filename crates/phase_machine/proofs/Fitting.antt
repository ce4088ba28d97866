-- What was opened fits the law, so the law's answers are in range.
use Rattle.std.proofs.Common.{◌≡◌, ℕ, ◌+◌, ◌<◌, ℤ, pos, List, refl, sym, subst, ◌∙◌, arith}
use Rattle.std.proofs.lemmas.Int.{ints}
use Rattle.std.proofs.lemmas.List.FromFn.{length-map-range_with_len}
use Rattle.fixed_num.specs.Lists.{number, list_of}
use Rattle.fixed_num.specs.Ranges.{IsFlow, IsTravelTime}
use Rattle.phase_law.specs.Law.{Law}
use Rattle.phase_law.specs.Laws.{IsLaw}
use Rattle.phase_law.specs.Ranges.{HeadInRange, LinkFixedInRange, NodeFixedInRange, SumsInRange, ShareInRange}
use Rattle.phase_law.specs.declared.values.LinkFixed.{LinkFixed}
use Rattle.phase_law.specs.declared.values.NodeFixed.{NodeFixed}
use Rattle.trial_model.specs.Fits.{Fits, HeadsFit}
use Rattle.trial_model.specs.Start.{no_link, no_node}
use Rattle.trial_model.proofs.RangeLemmas.{listed, shares_fit, with_flows_fit}
use Rattle.phase_machine.specs.Places.{link_place, node_place, least_place, other, written, is_first, first_place, link_fixed_in, node_fixed_in, nets_in, IsInRange}
use Rattle.phase_machine.specs.Kept.{shares, nexts}
use Rattle.phase_machine.proofs.PlaceLemmas.{other_few, word_flow, word_head}

-- words in range whose sums are 0 hold a state that fits
module _ (law : Law) (words : List ℤ) (ranges : (j : ℕ) → IsInRange law j (number words j)) where
  pub link_in : (l : ℕ) → l < law.links → LinkFixedInRange (link_fixed_in words l)
  link_in l h = record {
    flow = (ranges (link_place l 0)).link l 0 h (omega arith) refl;
    area = (ranges (link_place l 1)).link l 1 h (omega arith) refl;
    setting = (ranges (link_place l 2)).link l 2 h (omega arith) refl;
    length = (ranges (link_place l 3)).link l 3 h (omega arith) refl;
  }

  pub node_in : (n : ℕ) → n < law.nodes → NodeFixedInRange law (node_fixed_in law words n)
  node_in n h = record {
    head = (ranges (node_place law n 0)).node n 0 h (omega arith) refl;
    net = (ranges (node_place law n 1)).node n 1 h (omega arith) refl;
    lateral = (ranges (node_place law n 2)).node n 2 h (omega arith) refl;
    stage = (ranges (node_place law n 3)).node n 3 h (omega arith) refl;
    length = (ranges (node_place law n 4)).node n 4 h (omega arith) refl;
  }

  heads_in : (b : ℕ) → b < 2 → HeadsFit law (list_of (λ n. number words (node_place law n (5 + b))) law.nodes)
  heads_in b few = record {
    count = length-map-range_with_len (λ n. number words (node_place law n (5 + b))) 0 law.nodes;
    each = λ n h.
        subst (λ (v : ℤ). HeadInRange law v) (sym (listed (λ n. number words (node_place law n (5 + b))) law.nodes n (pos 0) h))
        (word_head law b (number words (node_place law n (5 + b))) few ((ranges (node_place law n (5 + b))).node n (5 + b) h (omega arith) refl));
  }

  no_sums : (x y z : ℤ) → x ≡ pos 0 → y ≡ pos 0 → z ≡ pos 0 → SumsInRange x y z
  no_sums x y z e1 e2 e3 = record {
    inflow_in = record { from = omega (arith, ints); to = omega (arith, ints) };
    outflow_in = record { from = omega (arith, ints); to = omega (arith, ints) };
    area_in = record { from = omega (arith, ints); to = omega (arith, ints) };
  }

  pub fits_in : ((n s : ℕ) → n < law.nodes → s < 3 → number words (node_place law n (7 + s)) ≡ pos 0)
      → number words (least_place law) ≡ pos 3_600_000 → (b : ℕ) → b < 2 → Fits law (nets_in law words b)
  unfolding nets_in
  fits_in sums least b few = record {
    heads = heads_in b few;
    flows = record {
      count = length-map-range_with_len (λ l. number words (link_place l (4 + b))) 0 law.links;
      each = λ l h.
          subst (λ (v : ℤ). IsFlow v) (sym (listed (λ l. number words (link_place l (4 + b))) law.links l (pos 0) h))
          (word_flow b (number words (link_place l (4 + b))) few ((ranges (link_place l (4 + b))).link l (4 + b) h (omega arith) refl));
    };
    sums = record {
      inflow_count = length-map-range_with_len (λ n. number words (node_place law n 7)) 0 law.nodes;
      outflow_count = length-map-range_with_len (λ n. number words (node_place law n 8)) 0 law.nodes;
      area_count = length-map-range_with_len (λ n. number words (node_place law n 9)) 0 law.nodes;
      each = λ n h.
          no_sums _ _ _
          (listed (λ n. number words (node_place law n 7)) law.nodes n (pos 0) h ∙ sums n 0 h (omega arith))
          (listed (λ n. number words (node_place law n 8)) law.nodes n (pos 0) h ∙ sums n 1 h (omega arith))
          (listed (λ n. number words (node_place law n 9)) law.nodes n (pos 0) h ∙ sums n 2 h (omega arith));
    };
    read_heads = heads_in (other b) (other_few b);
    links = record {
      count = length-map-range_with_len (link_fixed_in words) 0 law.links;
      each = λ l h. subst (λ (f : LinkFixed). LinkFixedInRange f) (sym (listed (link_fixed_in words) law.links l no_link h)) (link_in l h);
    };
    nodes = record {
      count = length-map-range_with_len (node_fixed_in law words) 0 law.nodes;
      each = λ n h. subst (λ (f : NodeFixed). NodeFixedInRange law f) (sym (listed (node_fixed_in law words) law.nodes n no_node h)) (node_in n h);
    };
    least = subst (λ (v : ℤ). IsTravelTime v) (sym least) (record { from = omega (arith, ints); to = omega (arith, ints) });
  }

-- the shares and next heads of a trial of what was opened
module _ {law : Law} (good : IsLaw law) (opened : List ℤ) (phase : ℕ) (fits : Fits law (nets_in law opened (other (written phase)))) where
  pub share_fits : (l : ℕ) → l < law.links → ShareInRange (shares law opened phase l)
  share_fits l h = (shares_fit good fits.links fits.heads fits.flows (is_first (number opened first_place))).each l h

  pub next_fits : (n : ℕ) → n < law.nodes → HeadInRange law (nexts law opened phase n).head
  next_fits n h =
      let f = with_flows_fit good fits (is_first (number opened first_place)) in
      good.next_in n _ (is_first (number opened first_place)) _ _ _ _ h (f.nodes.each n h) (f.sums.each n h) (f.read_heads.each n h)
