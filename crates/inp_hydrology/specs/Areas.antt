-- The form of the lines that give subareas (User's Manual, section [SUBAREAS]; ranges and faults are this project's
-- profile), and the subareas of an input.
use Rattle.std.specs.Prelude.{ℕ, List, Option, Some, None}
use Rattle.net_types.specs.declared.faults.LineFault.{LineFault}
use Rattle.net_types.specs.declared.hydrology.Sub.{Sub}
use Rattle.inp_lines.specs.declared.line.Line.{Line}
use Rattle.inp_lines.specs.declared.line.SectionName.TheVariants as section
use Rattle.inp_forms.specs.declared.item.Objects.TheVariants as objects
use Rattle.inp_forms.specs.Context.{Context}
use Rattle.inp_forms.specs.Forms.{RowForm, Forms}
use Rattle.inp_forms.specs.Getters.{amount_at, index_at}
use Rattle.inp_owners.specs.Owners.{owned_fault, owned_of, owner_of}
use Rattle.inp_owners.specs.Placing.{with_owned}
use Rattle.inp_hydrology.specs.declared.areas.OwnAreas.{OwnAreas}
use Rattle.inp_hydrology.specs.declared.areas.TheConstants.{AREAS}

abbrev pub area_form : RowForm OwnAreas
area_form = record {
  items = AREAS;
  make = λ tokens values. record {
    sub = index_at values 0;
    areas = record {
      n_imperv6 = amount_at values 1;
      n_perv6 = amount_at values 2;
      s_imperv = amount_at values 3;
      s_perv = amount_at values 4;
      zero6 = amount_at values 5;
    };
  };
}

abbrev pub area_forms : Forms OwnAreas
area_forms section.SubAreas = Some (λ _. area_form)
area_forms _ = None

-- the name of the subcatchment of a line of subareas
abbrev pub area_name : Context → Line → Option (List ℕ)
area_name known line = owner_of known objects.Subcatchments area_forms line

-- the subareas that lines give, in their order
abbrev pub areas_of : Context → List Line → List OwnAreas
areas_of known lines = owned_of known objects.Subcatchments area_forms lines

-- the fault of a line of subareas, none or one, by the lines before it
abbrev pub areas_fault : Context → List Line → Line → List LineFault
areas_fault known = owned_fault known objects.Subcatchments area_forms

-- ---- subcatchments with their subareas
abbrev pub sub_of_areas : OwnAreas → ℕ
sub_of_areas own = own.sub

-- a subcatchment that gains subareas
abbrev pub with_own_areas : OwnAreas → Sub → Sub
with_own_areas own sub = record sub { sub_areas = Some own.areas }

-- subcatchments, each with the subareas that are its own
unfoldable pub with_areas : List OwnAreas → List Sub → List Sub
with_areas areas subs = with_owned sub_of_areas with_own_areas areas subs
