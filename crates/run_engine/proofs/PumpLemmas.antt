-- The settings that pumps have by the depth at their inlet: the link, its first node and the depth there.
use Rattle.std.proofs.Common.{◌≡◌, ◌∙◌, ℕ, ◌<◌, List, length, sym, ap, ℤ, ◌-ℤ◌, get_or, subst, arith}
use Rattle.std.proofs.lemmas.List.{get_or_default}
use Rattle.std.proofs.lemmas.List.Elements.{All-get_or}
use Rattle.fixed_num.specs.Lists.{number}
use Rattle.fixed_num.specs.Ranges.{IsElevation, IsFall, IsHead, IsPart}
use Rattle.fixed_num.proofs.Bounds.{within_sub, within_up}
use Rattle.link_eval.specs.LawGood.{head_in}
use Rattle.link_eval.specs.Hydraulics.{hydraulics_of}
use Rattle.net_types.specs.Records.{link_at, no_link as no_project_link, node_at as node_of}
use Rattle.net_types.specs.Sound.{LinkNames}
use Rattle.net_types.specs.declared.network.Link.{Link}
use Rattle.net_types.specs.declared.project.Project.{Project}
use Rattle.phase_law.specs.declared.values.LinkFixed.{LinkFixed}
use Rattle.trial_model.specs.Fits.{HeadsFit, LinksFit, link_fixed_at}
use Rattle.project_check.specs.Faultless.{IsFaultless}
use Rattle.run_engine.specs.Settings.{first_depth, pumped_setting, setting_by_depth}
use Rattle.run_engine.specs.States.{project_law}
use Rattle.run_engine.proofs.LawLemmas.{law_links, law_nodes}
use Rattle.run_engine.proofs.RunLemmas.{run_node}

-- a link that was read from a list
pub link_is : {links xs : List Link} {l : ℕ} {link : Link} → xs ≡ links → l < length links → link ≡ get_or xs l link → link ≡ link_at links l
link_is {links} {xs} {l} {link} e h is = is ∙ (ap (λ (ys : List Link). get_or ys l link) e ∙ get_or_default links l link no_project_link h)

-- a setting by the link's kind, its depth and its setting before
pub pumped_is : (project : Project) (heads : List ℤ) (links : List LinkFixed) (l : ℕ) {link : Link} {depth setting : ℤ} → link ≡ link_at project.links l
    → depth ≡ first_depth project heads l → setting ≡ setting_by_depth link.kind depth (link_fixed_at links l).setting
    → setting ≡ pumped_setting project heads links l
pumped_is project heads links l {link} {depth} e f g =
    let before = (link_fixed_at links l).setting in
    g ∙ ap (λ (z : ℤ). setting_by_depth link.kind z before) f
    ∙ ap (λ (x : Link). setting_by_depth x.kind (first_depth project heads l) before) e

-- the first node of a link, and the depth there
module _ {project : Project} (r : IsFaultless project) (l : ℕ) (inside : l < length project.links) where
  names : LinkNames project (link_at project.links l)
  names = All-get_or (LinkNames project) project.links l no_project_link inside r.sound.names.links

  pub first_inside : {link : Link} → link ≡ link_at project.links l → link.first < length project.nodes
  first_inside e = subst (λ (x : Link). x.first < length project.nodes) (sym e) names.first

  pub invert_in : {link : Link} → link ≡ link_at project.links l → IsElevation (node_of project.nodes link.first).invert
  invert_in e = (run_node project r _ (first_inside e)).invert_in

  pub head_at : {heads : List ℤ} {link : Link} → HeadsFit (project_law project) heads → link ≡ link_at project.links l → IsHead (number heads link.first)
  head_at fit e = head_in (hydraulics_of project) (fit.each _ (omega (arith, law_nodes project, first_inside e)))

  pub depth_in : {heads : List ℤ} {link : Link} → HeadsFit (project_law project) heads → link ≡ link_at project.links l
      → IsFall (number heads link.first -ℤ (node_of project.nodes link.first).invert)
  depth_in fit e = within_up (within_sub (head_at fit e) (invert_in e)) tt

-- the settings of links that fit
pub setting_in : (project : Project) {links : List LinkFixed} (l : ℕ) → LinksFit (project_law project) links → l < length project.links → IsPart (link_fixed_at links l).setting
setting_in project l fit inside = (fit.each l (omega (arith, law_links project, inside))).setting
