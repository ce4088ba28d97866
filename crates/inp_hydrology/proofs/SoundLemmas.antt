-- What lines of rain gages, subcatchments, subareas and infiltration numbers mean is sound.
use Rattle.std.proofs.Common.{◌∷◌, [], ℕ, pos, List, filter, refl}
use Rattle.std.proofs.Common.{sym, subst, arith}
use Rattle.std.specs.List.{All, AllZip}
use Rattle.std.proofs.lemmas.List.Elements.{All-nil, All-cons}
use Rattle.net_types.specs.declared.hydrology.Gage.{Gage}
use Rattle.net_types.specs.declared.hydrology.Sub.{Sub}
use Rattle.net_types.specs.declared.options.InfilKind.{InfilKind}
use Rattle.net_types.specs.declared.options.InfilKind.TheVariants.{ModifiedHorton, CurveNumber}
use Rattle.net_types.specs.declared.project.Project.{Project}
use Rattle.fixed_num.specs.Ranges.{IsBetween, IsCoefficient, IsDryingTime, IsLandArea, IsPart, IsRate, IsRoughness}
use Rattle.fixed_num.specs.Ranges.{IsSmallDepth, IsWidth}
use Rattle.inp_values.specs.declared.quantities.Quantity.TheVariants as quantity
use Rattle.inp_values.specs.Units.{unit_for}
use Rattle.inp_lines.specs.declared.line.Line.{Line}
use Rattle.inp_lines.specs.declared.line.SectionName.{SectionName}
use Rattle.inp_lines.specs.declared.line.SectionName.TheVariants as section
use Rattle.inp_lines.specs.Faults.{token_at}
use Rattle.inp_forms.specs.declared.item.Item.TheVariants.{Needed}
use Rattle.inp_forms.specs.declared.item.Objects.TheVariants as objects
use Rattle.inp_forms.specs.declared.item.Value.{Value}
use Rattle.inp_forms.specs.declared.item.What.TheVariants as what
use Rattle.inp_forms.specs.Context.{Context}
use Rattle.inp_forms.specs.Forms.{is_form_line}
use Rattle.inp_forms.specs.Getters.{amount_of, index_at, value_at}
use Rattle.inp_forms.specs.Laws.{MeanRecords}
use Rattle.inp_forms.specs.Meaning.{IsAmount, IsHourAmount, IsMade, IsMadeBy, IsObject, IsRecord, IsValue}
use Rattle.inp_forms.proofs.PlaceLemmas.{item_at, least_in}
use Rattle.inp_hydrology.specs.declared.areas.OwnAreas.{OwnAreas}
use Rattle.inp_hydrology.specs.declared.soil.OwnInfil.{OwnInfil}
use Rattle.inp_hydrology.specs.Areas.{area_form, area_forms}
use Rattle.inp_hydrology.specs.Gages.{gage_form, gage_forms}
use Rattle.inp_hydrology.specs.Soil.{horton_form, number_form, infil_form, soil_forms}
use Rattle.inp_hydrology.specs.Subcatchments.{sub_form, sub_forms}
use Rattle.inp_hydrology.specs.Soundness.{AreSoundAreas, IsSoundGage, IsSoundSoil, IsSoundSub, NamesObjects}

-- what holds of the record of each line holds of all records
all_zipped : {L R : Type 0} (Is : L → R → Type 0) (P : R → Type 0) → ((line : L) (r : R) → Is line r → P r)
    → (lines : List L) (rs : List R) → AllZip Is lines rs → All P rs
all_zipped Is P each [] [] z = All-nil P
all_zipped Is P each [] (r ∷ rs) z = absurd z
all_zipped Is P each (line ∷ lines) [] z = absurd z
all_zipped Is P each (line ∷ lines) (r ∷ rs) z = All-cons P r rs (each line r z.0) (all_zipped Is P each lines rs z.1)

-- the ranges of quantities, which the units of measure have no part in
module _ (known : Context) (text : List ℕ) (value : Value) where
  roughness_in : IsAmount known quantity.Roughness text value → IsRoughness (amount_of value)
  unfolding unit_for
  roughness_in is = is.stored.range

  small_depth_in : IsAmount known quantity.SmallDepth text value → IsSmallDepth (amount_of value)
  unfolding unit_for
  small_depth_in is = is.stored.range

  percent_in : IsAmount known quantity.Percent text value → IsPart (amount_of value)
  unfolding unit_for
  percent_in is = is.stored.range

  rate_in : IsAmount known quantity.Rate text value → IsRate (amount_of value)
  unfolding unit_for
  rate_in is = is.stored.range

  coefficient_in : IsAmount known quantity.Coefficient text value → IsCoefficient (amount_of value)
  unfolding unit_for
  coefficient_in is = is.stored.range

  land_in : IsAmount known quantity.LandArea text value → IsLandArea (amount_of value)
  unfolding unit_for
  land_in is = is.stored.range

  width_in : IsAmount known quantity.Width text value → IsWidth (amount_of value)
  unfolding unit_for
  width_in is = is.stored.range

  dry_in : IsValue known (what.AtLeast (pos 86_400) quantity.Days) text value → IsDryingTime (amount_of value)
  unfolding unit_for
  dry_in is = least_in known (pos 86_400) quantity.Days text value is

  number_in : IsValue known (what.AtLeast (pos 1_000_000) quantity.Coefficient) text value
      → IsBetween (pos 1_000_000) (amount_of value) (pos 100_000_000)
  unfolding unit_for
  number_in is = least_in known (pos 1_000_000) quantity.Coefficient text value is

module _ (known : Context) (project : Project) (objects_are : NamesObjects known project) (tokens : List (List ℕ)) where
  gage_sound : (gage : Gage) → IsMade known gage_form tokens gage → IsSoundGage project gage
  gage_sound gage is =
      let values = is.values in
      let at = item_at known gage_form.items tokens 0 values is.are.each in
      let interval : IsHourAmount (pos 60_000) (pos 86_400_000) (token_at tokens 2) (value_at values 2) = at 2
      (Needed what.Name) (omega arith) in
      let series : IsObject known objects.Series (token_at tokens 5) (value_at values 5) = at 5 (Needed what.Name)
      (omega arith) in
      subst (IsSoundGage project) (sym is.made_is) (record {
        range = record { interval_in = interval.range };
        names = record { series = objects_are.series (token_at tokens 5) (index_at values 5) series.number_is };
      })

  sub_sound : (sub : Sub) → IsMade known sub_form tokens sub → IsSoundSub project sub
  sub_sound sub is =
      let values = is.values in
      let at = item_at known sub_form.items tokens 0 values is.are.each in
      let gage : IsObject known objects.Gages (token_at tokens 1) (value_at values 1) = at 1 (Needed what.Name)
      (omega arith) in
      let outlet : IsObject known objects.Nodes (token_at tokens 2) (value_at values 2) = at 2 (Needed what.Name)
      (omega arith) in
      let area : IsAmount known quantity.LandArea (token_at tokens 3) (value_at values 3) = at 3 (Needed what.Name)
      (omega arith) in
      let part : IsAmount known quantity.Percent (token_at tokens 4) (value_at values 4) = at 4 (Needed what.Name)
      (omega arith) in
      let wide : IsAmount known quantity.Width (token_at tokens 5) (value_at values 5) = at 5 (Needed what.Name)
      (omega arith) in
      let slope : IsAmount known quantity.Percent (token_at tokens 6) (value_at values 6) = at 6 (Needed what.Name)
      (omega arith) in
      subst (IsSoundSub project) (sym is.made_is) (record {
        range = record {
          area_in = land_in known (token_at tokens 3) (value_at values 3) area;
          imperv_in = percent_in known (token_at tokens 4) (value_at values 4) part;
          width_in = width_in known (token_at tokens 5) (value_at values 5) wide;
          slope_in = percent_in known (token_at tokens 6) (value_at values 6) slope;
          sub_areas_in = tt;
          infil_in = tt;
        };
        gage = objects_are.gages (token_at tokens 1) (index_at values 1) gage.number_is;
        outlet = objects_are.nodes (token_at tokens 2) (index_at values 2) outlet.number_is;
        no_areas = refl;
        no_infil = refl;
      })

  area_sound : (own : OwnAreas) → IsMade known area_form tokens own → AreSoundAreas project own
  area_sound own is =
      let values = is.values in
      let at = item_at known area_form.items tokens 0 values is.are.each in
      let sub : IsObject known objects.Subcatchments (token_at tokens 0) (value_at values 0) = at 0 (Needed what.Name)
      (omega arith) in
      let n_imperv : IsAmount known quantity.Roughness (token_at tokens 1) (value_at values 1) = at 1
      (Needed what.Name) (omega arith) in
      let n_perv : IsAmount known quantity.Roughness (token_at tokens 2) (value_at values 2) = at 2 (Needed what.Name)
      (omega arith) in
      let s_imperv : IsAmount known quantity.SmallDepth (token_at tokens 3) (value_at values 3) = at 3
      (Needed what.Name) (omega arith) in
      let s_perv : IsAmount known quantity.SmallDepth (token_at tokens 4) (value_at values 4) = at 4
      (Needed what.Name) (omega arith) in
      let zero : IsAmount known quantity.Percent (token_at tokens 5) (value_at values 5) = at 5 (Needed what.Name)
      (omega arith) in
      subst (AreSoundAreas project) (sym is.made_is) (record {
        range = record {
          n_imperv_in = roughness_in known (token_at tokens 1) (value_at values 1) n_imperv;
          n_perv_in = roughness_in known (token_at tokens 2) (value_at values 2) n_perv;
          s_imperv_in = small_depth_in known (token_at tokens 3) (value_at values 3) s_imperv;
          s_perv_in = small_depth_in known (token_at tokens 4) (value_at values 4) s_perv;
          zero_in = percent_in known (token_at tokens 5) (value_at values 5) zero;
        };
        sub = objects_are.subs (token_at tokens 0) (index_at values 0) sub.number_is;
      })

  horton_sound : (own : OwnInfil) → IsMade known horton_form tokens own → IsSoundSoil ModifiedHorton project own
  horton_sound own is =
      let values = is.values in
      let at = item_at known horton_form.items tokens 0 values is.are.each in
      let sub : IsObject known objects.Subcatchments (token_at tokens 0) (value_at values 0) = at 0 (Needed what.Name)
      (omega arith) in
      let most : IsAmount known quantity.Rate (token_at tokens 1) (value_at values 1) = at 1 (Needed what.Name)
      (omega arith) in
      let least : IsAmount known quantity.Rate (token_at tokens 2) (value_at values 2) = at 2 (Needed what.Name)
      (omega arith) in
      let decay : IsAmount known quantity.Coefficient (token_at tokens 3) (value_at values 3) = at 3
      (Needed what.Name) (omega arith) in
      let dry : IsValue known (what.AtLeast (pos 86_400) quantity.Days) (token_at tokens 4) (value_at values 4) = at 4
      (Needed what.Name) (omega arith) in
      let volume : IsAmount known quantity.SmallDepth (token_at tokens 5) (value_at values 5) = at 5
      (Needed what.Name) (omega arith) in
      subst (IsSoundSoil ModifiedHorton project) (sym is.made_is) (record {
        range = record {
          max_in = rate_in known (token_at tokens 1) (value_at values 1) most;
          min_in = rate_in known (token_at tokens 2) (value_at values 2) least;
          decay_in = coefficient_in known (token_at tokens 3) (value_at values 3) decay;
          dry_in = dry_in known (token_at tokens 4) (value_at values 4) dry;
          volume_in = small_depth_in known (token_at tokens 5) (value_at values 5) volume;
        };
        kind = tt;
        sub = objects_are.subs (token_at tokens 0) (index_at values 0) sub.number_is;
      })

  number_sound : (own : OwnInfil) → IsMade known number_form tokens own → IsSoundSoil CurveNumber project own
  number_sound own is =
      let values = is.values in
      let at = item_at known number_form.items tokens 0 values is.are.each in
      let sub : IsObject known objects.Subcatchments (token_at tokens 0) (value_at values 0) = at 0 (Needed what.Name)
      (omega arith) in
      let number : IsValue known (what.AtLeast (pos 1_000_000) quantity.Coefficient) (token_at tokens 1)
      (value_at values 1) = at 1 (Needed what.Name) (omega arith) in
      let dry : IsValue known (what.AtLeast (pos 86_400) quantity.Days) (token_at tokens 3) (value_at values 3) = at 3
      (Needed what.Name) (omega arith) in
      subst (IsSoundSoil CurveNumber project) (sym is.made_is) (record {
        range = record {
          number_in = number_in known (token_at tokens 1) (value_at values 1) number;
          dry_in = dry_in known (token_at tokens 3) (value_at values 3) dry;
        };
        kind = tt;
        sub = objects_are.subs (token_at tokens 0) (index_at values 0) sub.number_is;
      })

  infil_sound : (method : InfilKind) (own : OwnInfil) → IsMade known (infil_form method) tokens own
      → IsSoundSoil method project own
  infil_sound ModifiedHorton own is = horton_sound own is
  infil_sound CurveNumber own is = number_sound own is

  gage_by : (name : SectionName) (gage : Gage) → IsMadeBy known (gage_forms name) tokens gage → IsSoundGage project gage
  gage_by section.RainGages gage is = gage_sound gage is
  gage_by _ gage is = absurd is

  sub_by : (name : SectionName) (sub : Sub) → IsMadeBy known (sub_forms name) tokens sub → IsSoundSub project sub
  sub_by section.Subcatchments sub is = sub_sound sub is
  sub_by _ sub is = absurd is

  area_by : (name : SectionName) (own : OwnAreas) → IsMadeBy known (area_forms name) tokens own
      → AreSoundAreas project own
  area_by section.SubAreas own is = area_sound own is
  area_by _ own is = absurd is

  soil_by : (method : InfilKind) (name : SectionName) (own : OwnInfil) → IsMadeBy known
      (soil_forms method name) tokens own → IsSoundSoil method project own
  soil_by method section.Infiltration own is = infil_sound method own is
  soil_by method _ own is = absurd is

pub gages_sound : (known : Context) (project : Project) → NamesObjects known project
    → (lines : List Line) (gages : List Gage) → MeanRecords known gage_forms lines gages
    → All (IsSoundGage project) gages
gages_sound known project objects_are lines gages mean =
    all_zipped (IsRecord known gage_forms) (IsSoundGage project) (λ line gage is. gage_by known project objects_are
    line.tokens line.section gage is) (filter (is_form_line gage_forms) lines) gages mean

pub subs_sound : (known : Context) (project : Project) → NamesObjects known project
    → (lines : List Line) (subs : List Sub) → MeanRecords known sub_forms lines subs → All (IsSoundSub project) subs
subs_sound known project objects_are lines subs mean =
    all_zipped (IsRecord known sub_forms) (IsSoundSub project) (λ line sub is. sub_by known project objects_are
    line.tokens line.section sub is) (filter (is_form_line sub_forms) lines) subs mean

pub areas_sound : (known : Context) (project : Project) → NamesObjects known project
    → (lines : List Line) (areas : List OwnAreas) → MeanRecords known area_forms lines areas
    → All (AreSoundAreas project) areas
areas_sound known project objects_are lines areas mean =
    all_zipped (IsRecord known area_forms) (AreSoundAreas project) (λ line own is. area_by known project objects_are
    line.tokens line.section own is) (filter (is_form_line area_forms) lines) areas mean

pub soil_sound : (method : InfilKind) (known : Context) (project : Project) → NamesObjects known project
    → (lines : List Line) (soil : List OwnInfil) → MeanRecords known (soil_forms method) lines soil
    → All (IsSoundSoil method project) soil
soil_sound method known project objects_are lines soil mean =
    all_zipped (IsRecord known (soil_forms method)) (IsSoundSoil method project)
    (λ line own is. soil_by known project objects_are line.tokens method line.section own is) (filter
    (is_form_line (soil_forms method)) lines) soil mean
