-- What a project that can be run has.
use Rattle.std.proofs.Common.{ℕ, ℤ, pos, ◌+ℤ◌, ◌-ℤ◌, ◌≤ℤ◌, ◌<ℤ◌, ◌<◌, length, inl, inr, arith}
use Rattle.std.proofs.lemmas.Int.{ints}
use Rattle.std.proofs.lemmas.List.Elements.{All-get_or}
use Rattle.fixed_num.specs.Ranges.{IsEven, IsMoment}
use Rattle.calendar_steps.specs.Moment.{IsCalendarMoment}
use Rattle.net_types.specs.Ranges.{NodeInRange}
use Rattle.net_types.specs.Records.{no_node, node_at}
use Rattle.net_types.specs.declared.project.Project.{Project}
use Rattle.project_check.proofs.LawLemmas.{faultless_good}
use Rattle.report_writer.specs.DateTexts.{HasCalendarDates}
use Rattle.project_check.specs.Faultless.{IsFaultless}
use Rattle.time_series.specs.LateralFlow.{IsRunMoment}
use Rattle.run_engine.specs.Times.{AreRunOptions, IsRunTime, duration_of}

at_least : (a b : ℤ) → ¬ (a <ℤ b) → b ≤ℤ a
at_least a b h = grind (arith, ints, h)

even_between : (a b : ℤ) → IsEven a → IsEven b → b ≤ℤ a → IsEven (a -ℤ b)
even_between a b e f h = omega (arith, ints, e, f, h)

order : (a b : ℤ) → b ≤ℤ a → pos 0 ≤ℤ (a -ℤ b)
order a b h = omega (arith, ints, h)

pub run_options : (project : Project) → IsFaultless project → AreRunOptions project.options
run_options project r =
    let options = project.options in
    let in_range = r.sound.options in
    let times = (faultless_good project r).times in
    let ordered = at_least options.finish options.start times.order in
    record {
      duration = record {
        from = order options.finish options.start ordered;
        to = at_least (pos 316_224_000_000) (duration_of options) (λ over. times.limit (inl over));
      };
      duration_even = even_between options.finish options.start in_range.finish_even in_range.start_even ordered;
      step = in_range.step_in;
      step_even = in_range.step_even;
      steps = at_least _ (duration_of options) (λ over. times.limit (inr over));
      variable = in_range.variable_in;
    }

dated : {moment : ℤ} → IsMoment moment → IsCalendarMoment moment
dated {moment} m = (m.from, omega (arith, ints, m.to))

pub run_dates : (project : Project) → IsFaultless project → HasCalendarDates project.options
run_dates project r = let in_range = r.sound.options in record { start = dated in_range.start_in; finish = dated in_range.finish_in }

-- the moments of a run lie in the years of the calendar: it ends at one of them
before_end : (start finish moment : ℤ) → IsMoment start → IsMoment finish → pos 0 ≤ℤ moment → moment ≤ℤ (finish -ℤ start) → IsMoment (start +ℤ moment)
before_end start finish moment s f least most = record { from = omega (arith, ints, s.from, least); to = omega (arith, ints, f.to, most) }

pub run_start : (project : Project) → IsFaultless project → IsRunMoment project (pos 0)
run_start project r =
    let start = r.sound.options.start_in in
    record { from = omega (arith, ints, start.from); to = omega (arith, ints, start.to) }

pub run_moment : (project : Project) → IsFaultless project → {moment : ℤ} → IsRunTime project.options moment → IsRunMoment project moment
run_moment project r {moment} m =
    let options = project.options in
    let in_range = r.sound.options in
    before_end options.start options.finish moment in_range.start_in in_range.finish_in m.between.from m.between.to

pub run_node : (project : Project) → IsFaultless project → (n : ℕ) → n < length project.nodes → NodeInRange (node_at project.nodes n)
run_node project r n inside = All-get_or NodeInRange project.nodes n no_node inside r.sound.ranges.nodes
