-- The form of the lines that give the losses of conduits (User's Manual, section [LOSSES]; ranges and faults are this
-- project's profile), and the losses of an input.
use Rattle.std.specs.Prelude.{ℕ, List, Option, Some, None}
use Rattle.net_types.specs.declared.faults.LineFault.{LineFault}
use Rattle.net_types.specs.declared.network.Link.{Link}
use Rattle.net_types.specs.declared.network.LinkKind.{LinkKind}
use Rattle.net_types.specs.declared.network.LinkKind.TheVariants.{Conduit, Pump, Orifice, Weir}
use Rattle.inp_lines.specs.declared.line.Line.{Line}
use Rattle.inp_lines.specs.declared.line.SectionName.TheVariants as section
use Rattle.inp_forms.specs.declared.item.Objects.TheVariants as objects
use Rattle.inp_forms.specs.Context.{Context}
use Rattle.inp_forms.specs.Forms.{RowForm, Forms}
use Rattle.inp_forms.specs.Getters.{amount_at, index_at, is_on}
use Rattle.inp_owners.specs.Owners.{owned_fault, owned_of, owner_of}
use Rattle.inp_owners.specs.Placing.{with_owned}
use Rattle.inp_sections.specs.declared.losses.OwnLosses.{OwnLosses}
use Rattle.inp_sections.specs.declared.losses.TheConstants.{LOSSES}

abbrev pub loss_form : RowForm OwnLosses
loss_form = record {
  items = LOSSES;
  make = λ tokens values. record {
    link = index_at values 0;
    entry6 = amount_at values 1;
    exit6 = amount_at values 2;
    avg6 = amount_at values 3;
    flap = is_on values 4;
  };
}

abbrev pub loss_forms : Forms OwnLosses
loss_forms section.Losses = Some (λ _. loss_form)
loss_forms _ = None

-- the name of the conduit of a line of losses
abbrev pub loss_name : Context → Line → Option (List ℕ)
loss_name known line = owner_of known objects.Conduits loss_forms line

-- the losses that lines give, in their order
abbrev pub losses_of : Context → List Line → List OwnLosses
losses_of known lines = owned_of known objects.Conduits loss_forms lines

-- the fault of a line of losses, none or one, by the lines before it
abbrev pub losses_fault : Context → List Line → Line → List LineFault
losses_fault known = owned_fault known objects.Conduits loss_forms

-- ---- conduits with their losses
abbrev pub link_of_losses : OwnLosses → ℕ
link_of_losses own = own.link

-- a conduit that gains losses and a flap gate; other links have none
abbrev pub kind_with_losses : OwnLosses → LinkKind → LinkKind
kind_with_losses own (Conduit long n6 z1 z2 q0 q_max entry6 exit6 avg6 flap) =
    Conduit long n6 z1 z2 q0 q_max own.entry6 own.exit6 own.avg6 own.flap
kind_with_losses own (Pump curve on startup shutoff) = Pump curve on startup shutoff
kind_with_losses own (Orifice bottom offset cd6 flap) = Orifice bottom offset cd6 flap
kind_with_losses own (Weir notch crest cd6 flap contractions) = Weir notch crest cd6 flap contractions

abbrev pub with_own_losses : OwnLosses → Link → Link
with_own_losses own link = record link { kind = kind_with_losses own link.kind }

-- links, each with the losses that are its own
unfoldable pub with_losses : List OwnLosses → List Link → List Link
with_losses losses links = with_owned link_of_losses with_own_losses losses links
