-- What a step is given: the lateral inflows at its end, and the settings at its beginning.
use Rattle.std.proofs.Common.{◌≡◌, ◌∙◌, ℤ, pos, ◌+ℤ◌, ◌-ℤ◌, ◌≤ℤ◌, List, ap, arith}
use Rattle.std.proofs.lemmas.Int.{ints}
use Rattle.fixed_num.specs.Ranges.{IsBetween}
use Rattle.link_eval.specs.declared.hydraulics.Hydraulics.{Hydraulics}
use Rattle.net_types.specs.declared.options.Options.{Options}
use Rattle.net_types.specs.declared.project.Project.{Project}
use Rattle.trial_model.specs.declared.nets.Nets.{Nets}
use Rattle.run_engine.specs.Kept.{IsKept}
use Rattle.run_engine.specs.Laterals.{IsRunoffAt}
use Rattle.run_engine.specs.Settings.{settings_in}
use Rattle.run_engine.specs.Times.{AreRunOptions, IsRunStep, IsRunTime}
use Rattle.run_engine.specs.declared.kept.Kept.{Kept}
use Rattle.run_engine.specs.declared.start.Start.{Start}

-- a moment of a run lies within the longest run
pub run_within : {options : Options} {moment : ℤ} → AreRunOptions options → IsRunTime options moment
    → IsBetween (pos 0) moment (pos 316_224_000_000)
run_within o t = record { from = t.between.from; to = omega (arith, ints, t.between.to, o.duration.to) }

pub ends_by : {options : Options} {moment : ℤ} → AreRunOptions options → IsRunTime options moment
    → moment ≤ℤ pos 316_224_000_000
ends_by o t = (run_within o t).to

-- a step finishes no earlier than it begins
pub earlier_of : {start : Start} {h : Hydraulics} {kept : Kept} (finish dt : ℤ) → IsKept start h kept
    → finish ≡ kept.moment +ℤ dt → IsRunStep start.project.options finish dt
    → (earlier : ℤ) × IsBetween (pos 0) earlier finish × IsRunoffAt start earlier kept.runoff
earlier_of {start} {h} {kept} finish dt is e step = (
  kept.moment,
  record { from = is.clock.range.between.from; to = omega (arith, ints, e, step.length_in.least) },
  is.runoff,
)

-- the settings are those of the moment at which it begins
pub settings_begin : (project : Project) (nets : Nets) {settings : List ℤ} (moment finish dt : ℤ) → finish ≡ moment +ℤ dt
    → settings ≡ settings_in project moment nets → settings ≡ settings_in project (finish -ℤ dt) nets
settings_begin project nets moment finish dt e is = is ∙ ap (λ (m : ℤ). settings_in project m nets) (back moment finish dt e)
  where
    back : (m f d : ℤ) → f ≡ m +ℤ d → m ≡ f -ℤ d
    back m f d h = omega (arith, ints, h)
