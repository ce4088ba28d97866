-- The nodes that lines mean are sound.
use Rattle.std.proofs.Common.{◌≤◌, ℕ, pos, Bool, true, false, cond, List, codes, filter}
use Rattle.std.proofs.Common.{sym, subst, arith, Option, Some, None}
use Rattle.std.specs.List.{All}
use Rattle.net_types.specs.declared.network.Node.{Node}
use Rattle.net_types.specs.declared.network.Stage.{Stage}
use Rattle.net_types.specs.declared.network.Stage.TheVariants as stage
use Rattle.net_types.specs.declared.project.Project.{Project}
use Rattle.net_types.specs.Ranges.{StageInRange}
use Rattle.net_types.specs.Sound.{StageNames}
use Rattle.fixed_num.specs.Ranges.{IsDepth}
use Rattle.fixed_num.proofs.Bounds.{le_number}
use Rattle.inp_values.specs.declared.quantities.Quantity.TheVariants as quantity
use Rattle.inp_lines.specs.declared.line.Line.{Line}
use Rattle.inp_lines.specs.declared.line.SectionName.{SectionName}
use Rattle.inp_lines.specs.declared.line.SectionName.TheVariants as section
use Rattle.inp_lines.specs.Faults.{token_at}
use Rattle.inp_forms.specs.declared.item.Item.TheVariants.{Needed}
use Rattle.inp_forms.specs.declared.item.Objects.TheVariants as objects
use Rattle.inp_forms.specs.declared.item.Value.{Value}
use Rattle.inp_forms.specs.declared.item.What.TheVariants as what
use Rattle.inp_forms.specs.declared.words.Keyword.{Keyword}
use Rattle.inp_forms.specs.declared.words.Keyword.TheVariants as keyword
use Rattle.inp_forms.specs.Context.{Context}
use Rattle.inp_forms.specs.Forms.{is_form_line}
use Rattle.inp_forms.specs.Getters.{index_of, amount_at, index_at, choice_at, value_at}
use Rattle.inp_forms.specs.Laws.{MeanRecords}
use Rattle.inp_forms.specs.Meaning.{AreHalves, IsAmount, IsMade, IsMadeBy, IsObject, IsRecord}
use Rattle.inp_forms.specs.Meaning.{IsValue}
use Rattle.inp_forms.proofs.PlaceLemmas.{amount_in, item_at, least_in}
use Rattle.inp_network.specs.Nodes.{junction_form, outfall_from, steady_of, steady_stage, steady_form, fixed_form}
use Rattle.inp_network.specs.Nodes.{tidal_form, series_form, outfall_form, storage_form, tabular_form}
use Rattle.inp_network.specs.Nodes.{functional_form, node_forms, is_at}
use Rattle.inp_network.specs.Soundness.{IsSoundNode, NamesObjects}
use Rattle.inp_network.proofs.QuantityLemmas.{all_zipped, area_or, depth_in, depth_or, elevation_in, raw_amount_in}

zero_depth : IsDepth (pos 0)
zero_depth = record { from = le_number tt; to = le_number tt }

few_halves : (known : Context) (text : List ℕ) (value : Value) → AreHalves known text value → index_of value ≤ 6
few_halves known text value is = subst (λ v. index_of v ≤ 6) (sym is.value_is) is.few

module _ (known : Context) (project : Project) (objects_are : NamesObjects known project) (tokens : List (List ℕ)) where
  junction_sound : (node : Node) → IsMade known junction_form tokens node → IsSoundNode project node
  junction_sound node is =
      let values = is.values in
      let at = item_at known junction_form.items tokens 0 values is.are.each in
      let invert : IsAmount known quantity.Elevation (token_at tokens 1) (value_at values 1) = at 1 (Needed what.Name)
      (omega arith) in
      subst (IsSoundNode project) (sym is.made_is) (record {
        range = record {
          invert_in = elevation_in known (amount_at values 1) (amount_in known quantity.Elevation (token_at tokens 1)
              (value_at values 1) invert);
          y_max_in = depth_or known tokens 2 (value_at values 2) (at 2 (Needed what.Name) (omega arith));
          y0_in = depth_or known tokens 3 (value_at values 3) (at 3 (Needed what.Name) (omega arith));
          kind_in = record {
            surcharge_in = depth_or known tokens 4 (value_at values 4) (at 4 (Needed what.Name) (omega arith));
            pond_in = area_or known tokens 5 (value_at values 5) (at 5 (Needed what.Name) (omega arith));
          };
        };
        names = record { kind = tt };
      })

  -- an outfall of a stage that is sound
  with_stage : (values : List Value) (at : Stage) (gate : ℕ) → IsAmount known quantity.Elevation (token_at tokens 1)
      (value_at values 1) → StageInRange at → StageNames project at → IsSoundNode project
      (outfall_from tokens values at gate)
  with_stage values at gate invert range names = record {
    range = record {
      invert_in = elevation_in known (amount_at values 1) (amount_in known quantity.Elevation (token_at tokens 1)
          (value_at values 1) invert);
      y_max_in = zero_depth;
      y0_in = zero_depth;
      kind_in = range;
    };
    names = record { kind = names };
  }

  steady_in : (found : Option Keyword) → StageInRange (steady_stage found) × StageNames project (steady_stage found)
  steady_in None = (tt, tt)
  steady_in (Some found) = word found where
    word : (found : Keyword) → StageInRange (steady_of found) × StageNames project (steady_of found)
    word keyword.Normal = (tt, tt)
    word _ = (tt, tt)

  steady_sound : (node : Node) → IsMade known steady_form tokens node → IsSoundNode project node
  steady_sound node is =
      let values = is.values in
      let at = item_at known steady_form.items tokens 0 values is.are.each in
      let one = steady_in (choice_at values 2) in
      subst (IsSoundNode project) (sym is.made_is) (with_stage values (steady_stage (choice_at values 2)) 3 (at 1
      (Needed what.Name) (omega arith)) one.0 one.1)

  fixed_sound : (node : Node) → IsMade known fixed_form tokens node → IsSoundNode project node
  fixed_sound node is =
      let values = is.values in
      let at = item_at known fixed_form.items tokens 0 values is.are.each in
      let level : IsAmount known quantity.Elevation (token_at tokens 3) (value_at values 3) = at 3 (Needed what.Name)
      (omega arith) in
      subst (IsSoundNode project) (sym is.made_is) (with_stage values (stage.Fixed (amount_at values 3)) 4 (at 1
      (Needed what.Name) (omega arith))
      (elevation_in known (amount_at values 3) (amount_in known quantity.Elevation (token_at tokens 3)
      (value_at values 3) level)) tt)

  tidal_sound : (node : Node) → IsMade known tidal_form tokens node → IsSoundNode project node
  tidal_sound node is =
      let values = is.values in
      let at = item_at known tidal_form.items tokens 0 values is.are.each in
      let curve : IsObject known objects.TidalCurves (token_at tokens 3) (value_at values 3) = at 3 (Needed what.Name)
      (omega arith) in
      subst (IsSoundNode project) (sym is.made_is) (with_stage values (stage.Tidal (index_at values 3)) 4 (at 1
      (Needed what.Name) (omega arith)) tt
      (objects_are.tidal (token_at tokens 3) (index_at values 3) curve.number_is))

  series_sound : (node : Node) → IsMade known series_form tokens node → IsSoundNode project node
  series_sound node is =
      let values = is.values in
      let at = item_at known series_form.items tokens 0 values is.are.each in
      let series : IsObject known objects.Series (token_at tokens 3) (value_at values 3) = at 3 (Needed what.Name)
      (omega arith) in
      subst (IsSoundNode project) (sym is.made_is) (with_stage values (stage.Series (index_at values 3)) 4 (at 1
      (Needed what.Name) (omega arith)) tt
      (objects_are.series (token_at tokens 3) (index_at values 3) series.number_is))

  outfall_sound : (node : Node) → IsMade known (outfall_form tokens) tokens node → IsSoundNode project node
  unfolding outfall_form
  outfall_sound node is = fixed (is_at tokens 2 (codes "FIXED")) is where
    series : (b : Bool) → IsMade known (cond b series_form steady_form) tokens node → IsSoundNode project node
    series true is = series_sound node is
    series false is = steady_sound node is

    tidal : (b : Bool) → IsMade known (cond b tidal_form (cond (is_at tokens 2
        (codes "TIMESERIES")) series_form steady_form)) tokens node → IsSoundNode project node
    tidal true is = tidal_sound node is
    tidal false is = series (is_at tokens 2 (codes "TIMESERIES")) is

    fixed : (b : Bool) → IsMade known (cond b fixed_form (cond (is_at tokens 2 (codes "TIDAL")) tidal_form (cond
        (is_at tokens 2 (codes "TIMESERIES")) series_form steady_form))) tokens node → IsSoundNode project node
    fixed true is = fixed_sound node is
    fixed false is = tidal (is_at tokens 2 (codes "TIDAL")) is

  tabular_sound : (node : Node) → IsMade known tabular_form tokens node → IsSoundNode project node
  tabular_sound node is =
      let values = is.values in
      let at = item_at known tabular_form.items tokens 0 values is.are.each in
      let invert : IsAmount known quantity.Elevation (token_at tokens 1) (value_at values 1) = at 1 (Needed what.Name)
      (omega arith) in
      let y_max : IsAmount known quantity.Depth (token_at tokens 2) (value_at values 2) = at 2 (Needed what.Name)
      (omega arith) in
      let y0 : IsAmount known quantity.Depth (token_at tokens 3) (value_at values 3) = at 3 (Needed what.Name)
      (omega arith) in
      let curve : IsObject known objects.StorageCurves (token_at tokens 5) (value_at values 5) = at 5
      (Needed what.Name) (omega arith) in
      subst (IsSoundNode project) (sym is.made_is) (record {
        range = record {
          invert_in = elevation_in known (amount_at values 1) (amount_in known quantity.Elevation (token_at tokens 1)
              (value_at values 1) invert);
          y_max_in = depth_in known (amount_at values 2) (amount_in known quantity.Depth (token_at tokens 2)
              (value_at values 2) y_max);
          y0_in = depth_in known (amount_at values 3) (amount_in known quantity.Depth (token_at tokens 3)
              (value_at values 3) y0);
          kind_in = tt;
        };
        names = record { kind = objects_are.storage (token_at tokens 5) (index_at values 5) curve.number_is };
      })

  functional_sound : (node : Node) → IsMade known functional_form tokens node → IsSoundNode project node
  functional_sound node is =
      let values = is.values in
      let at = item_at known functional_form.items tokens 0 values is.are.each in
      let invert : IsAmount known quantity.Elevation (token_at tokens 1) (value_at values 1) = at 1 (Needed what.Name)
      (omega arith) in
      let y_max : IsAmount known quantity.Depth (token_at tokens 2) (value_at values 2) = at 2 (Needed what.Name)
      (omega arith) in
      let y0 : IsAmount known quantity.Depth (token_at tokens 3) (value_at values 3) = at 3 (Needed what.Name)
      (omega arith) in
      let a1 : IsValue known (what.AtLeast (pos 0) quantity.Raw) (token_at tokens 5) (value_at values 5) = at 5
      (Needed what.Name) (omega arith) in
      let halves : AreHalves known (token_at tokens 6) (value_at values 6) = at 6 (Needed what.Name) (omega arith) in
      let a0 : IsValue known (what.AtLeast (pos 0) quantity.Raw) (token_at tokens 7) (value_at values 7) = at 7
      (Needed what.Name) (omega arith) in
      subst (IsSoundNode project) (sym is.made_is) (record {
        range = record {
          invert_in = elevation_in known (amount_at values 1) (amount_in known quantity.Elevation (token_at tokens 1)
              (value_at values 1) invert);
          y_max_in = depth_in known (amount_at values 2) (amount_in known quantity.Depth (token_at tokens 2)
              (value_at values 2) y_max);
          y0_in = depth_in known (amount_at values 3) (amount_in known quantity.Depth (token_at tokens 3)
              (value_at values 3) y0);
          kind_in = record {
            a1_in = raw_amount_in known (amount_at values 5) (least_in known (pos 0) quantity.Raw (token_at tokens 5)
                (value_at values 5) a1);
            halves_in = few_halves known (token_at tokens 6) (value_at values 6) halves;
            a0_in = raw_amount_in known (amount_at values 7) (least_in known (pos 0) quantity.Raw (token_at tokens 7)
                (value_at values 7) a0);
          };
        };
        names = record { kind = tt };
      })

  storage_sound : (node : Node) → IsMade known (storage_form tokens) tokens node → IsSoundNode project node
  unfolding storage_form
  storage_sound node is = by (is_at tokens 4 (codes "FUNCTIONAL")) is where
    by : (b : Bool) → IsMade known (cond b functional_form tabular_form) tokens node → IsSoundNode project node
    by true is = functional_sound node is
    by false is = tabular_sound node is

  pub node_sound : (name : SectionName) (node : Node) → IsMadeBy known (node_forms name) tokens node
      → IsSoundNode project node
  node_sound section.Junctions node is = junction_sound node is
  node_sound section.Outfalls node is = outfall_sound node is
  node_sound section.Storage node is = storage_sound node is
  node_sound _ node is = absurd is

pub nodes_sound : (known : Context) (project : Project) → NamesObjects known project
    → (lines : List Line) (nodes : List Node) → MeanRecords known node_forms lines nodes
    → All (IsSoundNode project) nodes
nodes_sound known project objects_are lines nodes mean =
    all_zipped (IsRecord known node_forms) (IsSoundNode project) (λ line node is. node_sound known project objects_are
    line.tokens line.section node is) (filter (is_form_line node_forms) lines) nodes mean
