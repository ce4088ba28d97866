-- The account of a step from the parts of its nodes and links, and why it balances.
use Rattle.std.proofs.Common.{◌≡◌, ℕ, ◌<◌, Bool, true, false, ℤ, pos, ◌+ℤ◌, ◌-ℤ◌, ◌*ℤ◌, neg_ℤ, refl, sym, ap, ◌∙◌, arith}
use Rattle.std.specs.Prelude.{int_div}
use Rattle.std.proofs.lemmas.Int.{ints}
use Rattle.link_eval.specs.Good.{IsGood}
use Rattle.link_eval.specs.Hydraulics.{law_of, node_law_at}
use Rattle.link_eval.specs.LawGood.{law_good}
use Rattle.link_eval.specs.declared.hydraulics.Hydraulics.{Hydraulics}
use Rattle.net_types.specs.declared.account.StepAccount.{StepAccount}
use Rattle.node_update.specs.NodeUpdate.{net_of, gain_of, volume_of}
use Rattle.node_update.specs.NodeLaws.{is_outfall_rule}
use Rattle.node_update.proofs.UpdateLemmas.{dry_flood, dry_volume}
use Rattle.trial_model.specs.Fits.{node_fixed_at}
use Rattle.fixed_num.specs.Lists.{number}
use Rattle.trial_model.specs.Trial.{SumsOf, inflow_of, outflow_of}
use Rattle.trial_model.specs.declared.nets.Nets.{Nets}
use Rattle.trial_model.proofs.SumLemmas.{all_in_all_out}
use Rattle.continuity.specs.Account.{laterals_at, gain_at, flood_at, change_at, left_by, error_by}
use Rattle.continuity.specs.Account.{outfall_at, error_at, link_change, IsAccount, account_of, Balances}
use Rattle.continuity.specs.Parts.{node_part, link_part}
use Rattle.continuity.specs.StepOf.{IsStepOf}
use Rattle.continuity.specs.Sums.{plus_of, total_of}
use Rattle.fixed_num.specs.Sums.{sum_below}
use Rattle.fixed_num.proofs.SignedSums.{sum_same, sum_zero, sum_plus, sum_minus, sum_neg, sum_pos, sum_times}

-- ---- the account is the sum of the parts
with_none : (x y : ℤ) → y ≡ pos 0 → x +ℤ y ≡ x
with_none x y e = rw e (omega (arith, ints))

less : (x y z : ℤ) → y ≡ neg_ℤ z → x +ℤ y ≡ x -ℤ z
less x y z e = rw e (omega (arith, ints))

same_account : (a b c d e f g h i j : ℤ) → a ≡ f → b ≡ g → c ≡ h → d ≡ i → e ≡ j
    → ◌≡◌ {A = StepAccount} (record { inflow = a; outfall = b; flooding = c; storage = d; error = e }) (record { inflow = f; outfall = g; flooding = h; storage = i; error = j })
same_account a b c d e f g h i j p q r s t = cc

pub parts_are : (h : Hydraulics) (before after : Nets) (ms : ℤ)
    → plus_of (total_of (node_part h before after ms) (law_of h).nodes) (total_of (link_part h before after) (law_of h).links) ≡ account_of h before after ms
unfolding total_of node_part link_part account_of
parts_are h before after ms =
    let nodes = (law_of h).nodes in
    let links = (law_of h).links in
    let none = sum_zero links in
    same_account _ _ _ _ _ _ _ _ _ _
    (with_none (sum_below (λ n. int_div ms (pos 2) *ℤ laterals_at before after n) nodes) (sum_below (λ _. pos 0) links) none ∙ sum_times (int_div ms (pos 2)) (laterals_at before after) nodes)
    (with_none (sum_below (outfall_at h after) nodes) (sum_below (λ _. pos 0) links) none)
    (with_none (sum_below (flood_at h after) nodes) (sum_below (λ _. pos 0) links) none)
    refl
    (less (sum_below (error_at h before after) nodes) (sum_below (λ l. neg_ℤ (link_change h before after l)) links) (sum_below (link_change h before after) links) (sum_neg (link_change h before after) links))

pub account_is : (h : Hydraulics) (before after : Nets) (ms : ℤ) → IsAccount h before after ms (account_of h before after ms)
unfolding account_of
account_is h before after ms = record { inflow = refl; outfall = refl; flooding = refl; storage = refl; error = refl }

-- ---- a node: what leaves, floods, is stored and is in error is what came in
all_of : (outfall : Bool) (gain flood change : ℤ) → (outfall ≡ true → flood ≡ pos 0) → (outfall ≡ true → change ≡ pos 0)
    → left_by outfall gain +ℤ flood +ℤ change +ℤ error_by outfall gain flood change ≡ gain
all_of false gain flood change dry still = omega (arith, ints)
all_of true gain flood change dry still = rw (dry refl, still refl) (omega (arith, ints))

still : (a b : ℤ) → a ≡ pos 0 → b ≡ pos 0 → a -ℤ b ≡ pos 0
still a b e f = rw (e, f) refl

node_parts : (h : Hydraulics) (before after : Nets) (n : ℕ) → outfall_at h after n +ℤ flood_at h after n +ℤ change_at h before after n +ℤ error_at h before after n ≡ gain_at after n
node_parts h before after n =
    let law = node_law_at h n in
    all_of (is_outfall_rule law.rule) (gain_at after n) (flood_at h after n) (change_at h before after n)
    (λ e. dry_flood law (node_fixed_at after.nodes n) (number after.inflows n) (number after.outflows n) (number after.areas n) (number after.read_heads n) e)
    (λ e. still (volume_of law (number after.heads n)) (volume_of law (number before.heads n)) (dry_volume law (number after.heads n) e) (dry_volume law (number before.heads n) e))

four_sums : (a b c d : ℕ → ℤ) (n : ℕ) → sum_below (λ k. a k +ℤ b k +ℤ c k +ℤ d k) n ≡ sum_below a n +ℤ sum_below b n +ℤ sum_below c n +ℤ sum_below d n
four_sums a b c d n =
    let e1 = sum_plus (λ k. a k +ℤ b k +ℤ c k) d n in
    let e2 = sum_plus (λ k. a k +ℤ b k) c n in
    let e3 = sum_plus a b n in
    omega (arith, ints, e1, e2, e3)

-- ---- what all nodes gain is half the step by all lateral inflows
abbrev net_at : Nets → ℕ → ℤ
net_at nets n = number nets.inflows n -ℤ number nets.outflows n

-- in a state whose inflows and outflows are the sums of its flows, links give all nodes as much as they take
links_cancel : (h : Hydraulics) → IsGood h → (nets : Nets) → SumsOf (law_of h) nets → sum_below (net_at nets) (law_of h).nodes ≡ pos 0
links_cancel h good nets sums =
    let nodes = (law_of h).nodes in
    let ins = sum_same (number nets.inflows) (λ n. pos (inflow_of (law_of h) (number nets.flows) n)) nodes sums.inflows ∙ sum_pos (inflow_of (law_of h) (number nets.flows)) nodes in
    let outs = sum_same (number nets.outflows) (λ n. pos (outflow_of (law_of h) (number nets.flows) n)) nodes sums.outflows ∙ sum_pos (outflow_of (law_of h) (number nets.flows)) nodes in
    sum_minus (number nets.inflows) (number nets.outflows) nodes
    ∙ still_too (ins ∙ ap pos (all_in_all_out (law_of h) (number nets.flows) (law_good h good))) outs
  where
    still_too : {a b c : ℤ} → a ≡ c → b ≡ c → a -ℤ b ≡ pos 0
    still_too {a} {b} {c} e f = rw (e, f) (omega (arith, ints))

regroup : (x i o y j p : ℤ) → x +ℤ i -ℤ o +ℤ (y +ℤ j -ℤ p) ≡ x +ℤ y +ℤ (i -ℤ o) +ℤ (j -ℤ p)
regroup x i o y j p = omega (arith, ints)

gain_is : (h : Hydraulics) (before after : Nets) (ms : ℤ) → IsStepOf h before after ms → (n : ℕ) → n < (law_of h).nodes
    → gain_at after n ≡ int_div ms (pos 2) *ℤ (laterals_at before after n +ℤ net_at before n +ℤ net_at after n)
unfolding gain_of net_of
gain_is h before after ms step n inside =
    let s = step.each n inside in
    let old = node_fixed_at before.nodes n in
    let new = node_fixed_at after.nodes n in
    rw (s.length, s.net)
    (ap (λ (z : ℤ). int_div ms (pos 2) *ℤ z)
    (regroup old.lateral (number before.inflows n) (number before.outflows n) new.lateral (number after.inflows n) (number after.outflows n)))

three_sums : (a b c : ℕ → ℤ) (n : ℕ) → sum_below b n ≡ pos 0 → sum_below c n ≡ pos 0 → sum_below (λ k. a k +ℤ b k +ℤ c k) n ≡ sum_below a n
three_sums a b c n e f =
    let e1 = sum_plus (λ k. a k +ℤ b k) c n in
    let e2 = sum_plus a b n in
    omega (arith, ints, e1, e2, e, f)

all_gains : (h : Hydraulics) → IsGood h → (before after : Nets) (ms : ℤ) → SumsOf (law_of h) before → SumsOf (law_of h) after → IsStepOf h before after ms
    → sum_below (gain_at after) (law_of h).nodes ≡ int_div ms (pos 2) *ℤ sum_below (laterals_at before after) (law_of h).nodes
all_gains h good before after ms sums_before sums_after step =
    let nodes = (law_of h).nodes in
    let half = int_div ms (pos 2) in
    sum_same (gain_at after) (λ n. half *ℤ (laterals_at before after n +ℤ net_at before n +ℤ net_at after n)) nodes (gain_is h before after ms step)
    ∙ sum_times half (λ n. laterals_at before after n +ℤ net_at before n +ℤ net_at after n) nodes
    ∙ ap (λ (z : ℤ). half *ℤ z)
    (three_sums (laterals_at before after) (net_at before) (net_at after) nodes (links_cancel h good before sums_before) (links_cancel h good after sums_after))

-- ---- the identity
close : (inflow outfall flooding nodes links errors : ℤ) → outfall +ℤ flooding +ℤ nodes +ℤ errors ≡ inflow
    → inflow -ℤ outfall -ℤ flooding ≡ nodes +ℤ links +ℤ (errors -ℤ links)
close inflow outfall flooding nodes links errors e = omega (arith, ints, e)

pub balances : (h : Hydraulics) → IsGood h → (before after : Nets) (ms : ℤ) → SumsOf (law_of h) before → SumsOf (law_of h) after → IsStepOf h before after ms
    → Balances (account_of h before after ms)
unfolding account_of
balances h good before after ms sums_before sums_after step =
    let nodes = (law_of h).nodes in
    let parts = sum_same (λ n. outfall_at h after n +ℤ flood_at h after n +ℤ change_at h before after n +ℤ error_at h before after n) (gain_at after) nodes
    (λ n inside. node_parts h before after n) in
    let four = four_sums (outfall_at h after) (flood_at h after) (change_at h before after) (error_at h before after) nodes in
    close _ _ _ _ _ _ (sym four ∙ parts ∙ all_gains h good before after ms sums_before sums_after step)

-- two accounts that balance have a sum that balances
pub balance_plus : (a b : StepAccount) → Balances a → Balances b → Balances (plus_of a b)
balance_plus a b e f = omega (arith, ints, e, f)
