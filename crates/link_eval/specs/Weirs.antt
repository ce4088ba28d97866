-- The law of a weir, and what it gives in a trial (User's Manual, section [WEIRS]; Reference Manual volume II,
-- chapter 6).
use Rattle.std.specs.Prelude.{Bool, false, ℤ, pos, ◌+ℤ◌}
use Rattle.net_types.specs.declared.network.Section.{Section}
use Rattle.net_types.specs.declared.network.Shape.{Shape}
use Rattle.net_types.specs.declared.network.Shape.TheVariants.{RectOpen, RectClosed, Trapezoidal, Triangular, Circular}
use Rattle.orifice_weir.specs.WeirFlow.{IsWeir, weir_flow_of}
use Rattle.phase_law.specs.declared.values.LinkFixed.{LinkFixed}
use Rattle.phase_law.specs.declared.values.Share.{Share}
use Rattle.short_links.specs.ShortShare.{short_share_of}
use Rattle.link_eval.specs.Ends.{short_link_of}
use Rattle.link_eval.specs.declared.ends.LinkEnds.{LinkEnds}
use Rattle.link_eval.specs.declared.weir.WeirLaw.{WeirLaw}

-- the width by which the opening of a weir is given: that of a rectangle, and that of the top of a notch; a weir has
-- one of these two shapes
abbrev pub given_width : Shape → ℤ
given_width (RectOpen width) = width
given_width (RectClosed width) = width
given_width (Trapezoidal bottom left6 right6) = bottom
given_width (Triangular top) = top
given_width Circular = pos 0

-- a weir as it is routed: its crest lies at the invert of its first node and its offset
abbrev pub weir_law_of : (notch : Bool) → (crest c6 : ℤ) → (flap : Bool) → (contractions : ℤ) → Section
    → LinkEnds → WeirLaw
weir_law_of notch crest c6 flap contractions section ends = record {
  ends = short_link_of ends flap;
  weir = record {
    notch = notch;
    crest = ends.invert1 +ℤ crest;
    full = section.full;
    width = given_width section.shape;
    c6 = c6;
    contractions = contractions;
  };
}

-- a weir of which all is 0
abbrev pub no_weir_law : WeirLaw
no_weir_law = record {
  ends = record { flap = false; invert1 = pos 0; invert2 = pos 0 };
  weir = record { notch = false; crest = pos 0; full = pos 0; width = pos 0; c6 = pos 0; contractions = pos 0 };
}

-- its share
unfoldable pub weir_share_of : WeirLaw → LinkFixed → (first : Bool) → (near far last : ℤ) → Share
weir_share_of law fixed first near far last =
    short_share_of law.ends first near far last (weir_flow_of law.weir fixed.setting near far)

pub record IsWeirLaw (law : WeirLaw) : Type 0 where
  pub weir : IsWeir law.weir
