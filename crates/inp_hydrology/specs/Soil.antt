-- The forms of the lines that give the infiltration numbers of subcatchments, by the method of the options (User's
-- Manual, section [INFILTRATION]; ranges and faults are this project's profile), and those of an input.
use Rattle.std.specs.Prelude.{ℕ, List, Option, Some, None}
use Rattle.net_types.specs.declared.faults.LineFault.{LineFault}
use Rattle.net_types.specs.declared.hydrology.Sub.{Sub}
use Rattle.net_types.specs.declared.hydrology.Infil.TheVariants.{Horton, Number}
use Rattle.net_types.specs.declared.options.InfilKind.{InfilKind}
use Rattle.net_types.specs.declared.options.InfilKind.TheVariants.{ModifiedHorton, CurveNumber}
use Rattle.inp_lines.specs.declared.line.Line.{Line}
use Rattle.inp_lines.specs.declared.line.SectionName.TheVariants as section
use Rattle.inp_forms.specs.declared.item.Objects.TheVariants as objects
use Rattle.inp_forms.specs.Context.{Context}
use Rattle.inp_forms.specs.Forms.{RowForm, Forms}
use Rattle.inp_forms.specs.Getters.{amount_at, index_at}
use Rattle.inp_owners.specs.Owners.{owned_fault, owned_of, owner_of}
use Rattle.inp_owners.specs.Placing.{with_owned}
use Rattle.inp_hydrology.specs.declared.soil.OwnInfil.{OwnInfil}
use Rattle.inp_hydrology.specs.declared.soil.TheConstants.{HORTON, CURVE_NUMBER}

abbrev pub horton_form : RowForm OwnInfil
horton_form = record {
  items = HORTON;
  make = λ tokens values. record {
    sub = index_at values 0;
    infil = Horton (amount_at values 1) (amount_at values 2) (amount_at values 3) (amount_at values 4)
        (amount_at values 5);
  };
}

abbrev pub number_form : RowForm OwnInfil
number_form = record {
  items = CURVE_NUMBER;
  make = λ tokens values. record {
    sub = index_at values 0;
    infil = Number (amount_at values 1) (amount_at values 3);
  };
}

abbrev pub infil_form : InfilKind → RowForm OwnInfil
infil_form ModifiedHorton = horton_form
infil_form CurveNumber = number_form

abbrev pub soil_forms : InfilKind → Forms OwnInfil
soil_forms method section.Infiltration = Some (λ _. infil_form method)
soil_forms method _ = None

-- the name of the subcatchment of a line
abbrev pub soil_name : InfilKind → Context → Line → Option (List ℕ)
soil_name method known line = owner_of known objects.Subcatchments (soil_forms method) line

-- the infiltration numbers that lines give, in their order
abbrev pub soil_of : InfilKind → Context → List Line → List OwnInfil
soil_of method known lines = owned_of known objects.Subcatchments (soil_forms method) lines

-- the fault of a line of infiltration numbers, none or one, by the lines before it
abbrev pub soil_fault : InfilKind → Context → List Line → Line → List LineFault
soil_fault method known = owned_fault known objects.Subcatchments (soil_forms method)

-- ---- subcatchments with their infiltration numbers
abbrev pub sub_of_infil : OwnInfil → ℕ
sub_of_infil own = own.sub

-- a subcatchment that gains infiltration numbers
abbrev pub with_own_infil : OwnInfil → Sub → Sub
with_own_infil own sub = record sub { infil = Some own.infil }

-- subcatchments, each with the infiltration numbers that are its own
unfoldable pub with_infil : List OwnInfil → List Sub → List Sub
with_infil soil subs = with_owned sub_of_infil with_own_infil soil subs
