-- The links that lines mean are sound.
use Rattle.std.proofs.Common.{ℕ, pos, List, filter, refl, sym}
use Rattle.std.proofs.Common.{subst, arith}
use Rattle.std.specs.List.{All}
use Rattle.net_types.specs.declared.network.Link.{Link}
use Rattle.net_types.specs.declared.network.LinkKind.{LinkKind}
use Rattle.net_types.specs.declared.project.Project.{Project}
use Rattle.net_types.specs.Ranges.{LinkKindInRange}
use Rattle.net_types.specs.Sound.{LinkKindNames}
use Rattle.fixed_num.specs.Ranges.{IsCoefficient}
use Rattle.fixed_num.proofs.Bounds.{le_number}
use Rattle.inp_values.specs.declared.quantities.Quantity.TheVariants as quantity
use Rattle.inp_lines.specs.declared.line.Line.{Line}
use Rattle.inp_lines.specs.declared.line.SectionName.{SectionName}
use Rattle.inp_lines.specs.declared.line.SectionName.TheVariants as section
use Rattle.inp_lines.specs.Faults.{token_at}
use Rattle.inp_forms.specs.declared.item.Item.TheVariants.{Needed}
use Rattle.inp_forms.specs.declared.item.Objects.TheVariants as objects
use Rattle.inp_forms.specs.declared.item.Value.{Value}
use Rattle.inp_forms.specs.declared.item.What.TheVariants as what
use Rattle.inp_forms.specs.Context.{Context}
use Rattle.inp_forms.specs.Forms.{is_form_line}
use Rattle.inp_forms.specs.Getters.{amount_at, index_at, value_at}
use Rattle.inp_forms.specs.Laws.{MeanRecords}
use Rattle.inp_forms.specs.Meaning.{IsAmount, IsMade, IsMadeBy, IsObject, IsRecord, IsValue, IsWeirAmount}
use Rattle.inp_forms.proofs.PlaceLemmas.{amount_in, item_at}
use Rattle.inp_network.specs.Links.{conduit_form, pump_form, orifice_form, weir_form, link_forms, link_from}
use Rattle.inp_network.specs.Soundness.{IsSoundLink, NamesObjects}
use Rattle.inp_network.proofs.QuantityLemmas.{all_zipped, coefficient_in, contractions_or, depth_in, depth_or}
use Rattle.inp_network.proofs.QuantityLemmas.{flow_limit_or, flow_or, length_in, roughness_in, weir_in}

zero_coefficient : IsCoefficient (pos 0)
zero_coefficient = record { from = le_number tt; to = le_number tt }

module _ (known : Context) (project : Project) (objects_are : NamesObjects known project) (tokens : List (List ℕ)) where
  -- a link between nodes
  between : (values : List Value) (kind : LinkKind) → IsObject known objects.Nodes (token_at tokens 1)
      (value_at values 1) → IsObject known objects.Nodes (token_at tokens 2) (value_at values 2)
      → LinkKindInRange kind → LinkKindNames project kind → IsSoundLink project (link_from tokens values kind)
  between values kind first second range names = record {
    range = range;
    first = objects_are.nodes (token_at tokens 1) (index_at values 1) first.number_is;
    second = objects_are.nodes (token_at tokens 2) (index_at values 2) second.number_is;
    names = names;
    bare = refl;
  }

  conduit_sound : (link : Link) → IsMade known conduit_form tokens link → IsSoundLink project link
  conduit_sound link is =
      let values = is.values in
      let at = item_at known conduit_form.items tokens 0 values is.are.each in
      let long : IsAmount known quantity.ConduitLength (token_at tokens 3) (value_at values 3) = at 3
      (Needed what.Name) (omega arith) in
      let rough : IsAmount known quantity.Roughness (token_at tokens 4) (value_at values 4) = at 4 (Needed what.Name)
      (omega arith) in
      let z1 : IsAmount known quantity.Depth (token_at tokens 5) (value_at values 5) = at 5 (Needed what.Name)
      (omega arith) in
      let z2 : IsAmount known quantity.Depth (token_at tokens 6) (value_at values 6) = at 6 (Needed what.Name)
      (omega arith) in
      subst (IsSoundLink project) (sym is.made_is) (between values _ (at 1 (Needed what.Name) (omega arith)) (at 2
      (Needed what.Name) (omega arith)) (record {
        long_in = length_in known (amount_at values 3) (amount_in known quantity.ConduitLength (token_at tokens 3)
            (value_at values 3) long);
        roughness_in = roughness_in known (amount_at values 4) (amount_in known quantity.Roughness (token_at tokens 4)
            (value_at values 4) rough);
        z1_in = depth_in known (amount_at values 5) (amount_in known quantity.Depth (token_at tokens 5)
            (value_at values 5) z1);
        z2_in = depth_in known (amount_at values 6) (amount_in known quantity.Depth (token_at tokens 6)
            (value_at values 6) z2);
        q0_in = flow_or known tokens 7 (value_at values 7) (at 7 (Needed what.Name) (omega arith));
        q_max_in = flow_limit_or known tokens 8 (value_at values 8) (at 8 (Needed what.Name) (omega arith));
        entry_in = zero_coefficient;
        exit_in = zero_coefficient;
        avg_in = zero_coefficient;
      }) tt)

  pump_sound : (link : Link) → IsMade known pump_form tokens link → IsSoundLink project link
  pump_sound link is =
      let values = is.values in
      let at = item_at known pump_form.items tokens 0 values is.are.each in
      let curve : IsValue known what.PumpCurve (token_at tokens 3) (value_at values 3) = at 3 (Needed what.Name)
      (omega arith) in
      subst (IsSoundLink project) (sym is.made_is) (between values _ (at 1 (Needed what.Name) (omega arith)) (at 2
      (Needed what.Name) (omega arith)) (record {
        startup_in = depth_or known tokens 5 (value_at values 5) (at 5 (Needed what.Name) (omega arith));
        shutoff_in = depth_or known tokens 6 (value_at values 6) (at 6 (Needed what.Name) (omega arith));
      }) (objects_are.pump (token_at tokens 3) (index_at values 3) curve.1.number_is))

  orifice_sound : (link : Link) → IsMade known orifice_form tokens link → IsSoundLink project link
  orifice_sound link is =
      let values = is.values in
      let at = item_at known orifice_form.items tokens 0 values is.are.each in
      let offset : IsAmount known quantity.Depth (token_at tokens 4) (value_at values 4) = at 4 (Needed what.Name)
      (omega arith) in
      let cd : IsAmount known quantity.Coefficient (token_at tokens 5) (value_at values 5) = at 5 (Needed what.Name)
      (omega arith) in
      subst (IsSoundLink project) (sym is.made_is) (between values _ (at 1 (Needed what.Name) (omega arith)) (at 2
      (Needed what.Name) (omega arith)) (record {
        offset_in = depth_in known (amount_at values 4) (amount_in known quantity.Depth (token_at tokens 4)
            (value_at values 4) offset);
        cd_in = coefficient_in known (amount_at values 5) (amount_in known quantity.Coefficient (token_at tokens 5)
            (value_at values 5) cd);
      }) tt)

  weir_sound : (link : Link) → IsMade known weir_form tokens link → IsSoundLink project link
  weir_sound link is =
      let values = is.values in
      let at = item_at known weir_form.items tokens 0 values is.are.each in
      let crest : IsAmount known quantity.Depth (token_at tokens 4) (value_at values 4) = at 4 (Needed what.Name)
      (omega arith) in
      let cd : IsWeirAmount known (token_at tokens 5) (value_at values 5) = at 5 (Needed what.Name) (omega arith) in
      subst (IsSoundLink project) (sym is.made_is) (between values _ (at 1 (Needed what.Name) (omega arith)) (at 2
      (Needed what.Name) (omega arith)) (record {
        crest_in = depth_in known (amount_at values 4) (amount_in known quantity.Depth (token_at tokens 4)
            (value_at values 4) crest);
        cd_in = weir_in known (token_at tokens 5) (value_at values 5) cd;
        contractions_in = contractions_or known tokens 7 (value_at values 7) (at 7 (Needed what.Name) (omega arith));
      }) tt)

  pub link_sound : (name : SectionName) (link : Link) → IsMadeBy known (link_forms name) tokens link
      → IsSoundLink project link
  link_sound section.Conduits link is = conduit_sound link is
  link_sound section.Pumps link is = pump_sound link is
  link_sound section.Orifices link is = orifice_sound link is
  link_sound section.Weirs link is = weir_sound link is
  link_sound _ link is = absurd is

pub links_sound : (known : Context) (project : Project) → NamesObjects known project
    → (lines : List Line) (links : List Link) → MeanRecords known link_forms lines links
    → All (IsSoundLink project) links
links_sound known project objects_are lines links mean =
    all_zipped (IsRecord known link_forms) (IsSoundLink project) (λ line link is. link_sound known project objects_are
    line.tokens line.section link is) (filter (is_form_line link_forms) lines) links mean
