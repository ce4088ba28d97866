-- The steps of all subcatchments as the steps of a run.
use Rattle.std.proofs.Common.{◌≡◌, ℕ, suc, ◌+◌, ◌<◌, ◌≤◌, List, [], length, get_or, set, ℤ, pos, ◌+ℤ◌, ◌*ℤ◌, ◌∙◌}
use Rattle.std.proofs.Common.{refl, ap, subst, sym, arith, below_more}
use Rattle.std.specs.List.{All}
use Rattle.std.proofs.lemmas.List.{length-set, get_or_default, get_or-set_same, get_or-set_other}
use Rattle.std.proofs.lemmas.List.Elements.{All-from_get_or}
use Rattle.net_types.specs.declared.hydrology.Sub.{Sub}
use Rattle.net_types.specs.declared.project.Project.{Project}
use Rattle.rain_gages.specs.Intensity.{intensity_of}
use Rattle.runoff.specs.RunoffStep.{StepInRange, SubGrowsSlowly, sub_state_after, sub_step_of}
use Rattle.runoff.specs.declared.states.SubState.{SubState}
use Rattle.runoff.specs.declared.states.SubStep.{SubStep}
use Rattle.runoff_states.specs.RunoffAccount.{IsClosed}
use Rattle.runoff_states.specs.RunoffStates.{after_on, moment_of, state_at, step_at, step_on, sub_at}
use Rattle.runoff_states.specs.RunoffStates.{AreStates, AreStatesUpTo}
use Rattle.runoff_states.proofs.AccountLemmas.{no_step}

-- what a state past the end of a list is read as
abbrev pub no_state : SubState
no_state = state_at [] 0

pub run_on : {project : Project} {moment : ℤ} {old new : List SubState} → length new ≡ length old
    → ((k : ℕ) → k < length project.subs → state_at new k ≡ after_on project moment (state_at old k) k)
    → (start : ℕ → SubState) (done : ℕ) → moment ≡ moment_of project done → AreStates project start done old
    → AreStates project start (suc done) new
run_on {project} {moment} {old} {new} count after start done at states = record {
  each_sub = count ∙ states.each_sub;
  is = λ k h. after k h ∙ ap (λ (m : ℤ). after_on project m (state_at old k) k) at
      ∙ ap (λ (s : SubState). after_on project (moment_of project done) s k) (states.is k h);
}

pub grown : {project : Project} {old new : List SubState} → length new ≡ length old
    → ((k : ℕ) → k < length project.subs → SubGrowsSlowly (sub_at project.subs k) project.options.wet_ms
    (state_at old k) (state_at new k))
    → (most : ℤ) → AreStatesUpTo most project old
    → AreStatesUpTo (most +ℤ pos 2_778 *ℤ project.options.wet_ms) project new
grown count slow most states = record {
  each_sub = count ∙ states.each_sub;
  range = λ k h. slow k h most (states.range k h);
}

-- a subcatchment of a list that is a project's, whatever it is read as past the end
pub sub_is : (project : Project) (items : List Sub) (k : ℕ) (d : Sub) → items ≡ project.subs → k < length items
    → get_or items k d ≡ sub_at project.subs k
sub_is project items k d e h =
    get_or_default items k d (sub_at [] 0) h ∙ ap (λ (l : List Sub). get_or l k (sub_at [] 0)) e

-- where the walk over the subcatchments stands: those before a place have made their step
pub record Stepped (project : Project) (moment : ℤ) (old states : List SubState) (steps : List SubStep) (place : ℕ)
    : Type 0 where
  pub count : length states ≡ length old
  pub done : (k : ℕ) → k < place → state_at states k ≡ after_on project moment (state_at old k) k
  pub told : (k : ℕ) → k < place → step_at steps k ≡ step_on project moment (state_at old k) k
  pub left : (k : ℕ) → place ≤ k → state_at states k ≡ state_at old k
  pub grown : (k : ℕ) → k < place → SubGrowsSlowly (sub_at project.subs k) project.options.wet_ms (state_at old k)
      (state_at states k)
  pub range : (k : ℕ) → k < place → StepInRange (step_at steps k)
  pub closed : (k : ℕ) → k < place → IsClosed (step_at steps k)

-- what the step of the subcatchment at this place gave
pub record StepAt (project : Project) (moment : ℤ) (before after : SubState) (step : SubStep) (k : ℕ) : Type 0 where
  pub after_is : after ≡ after_on project moment before k
  pub step_is : step ≡ step_on project moment before k
  pub grown : SubGrowsSlowly (sub_at project.subs k) project.options.wet_ms before after
  pub range : StepInRange step
  pub closed : IsClosed step

pub stepped_more : {project : Project} {moment : ℤ} {old states : List SubState} {steps : List SubStep} {place : ℕ}
    → Stepped project moment old states steps place → (before after : SubState) (step : SubStep)
    → place < length states → place < length steps → before ≡ state_at old place
    → StepAt project moment before after step place
    → Stepped project moment old (set states place after) (set steps place step) (place + 1)
stepped_more {project} {moment} {old} {states} {steps} {place} w before after step inside room was s =
    let new_state : state_at (set states place after) place ≡ after = get_or-set_same states place after no_state inside in
    let new_step : step_at (set steps place step) place ≡ step = get_or-set_same steps place step no_step room in
    let other_state : (k : ℕ) → (k ≡ place → ⊥) → state_at (set states place after) k ≡ state_at states k =
    λ k ne. get_or-set_other states place k after no_state ne in
    let other_step : (k : ℕ) → (k ≡ place → ⊥) → step_at (set steps place step) k ≡ step_at steps k =
    λ k ne. get_or-set_other steps place k step no_step ne in
    record {
      count = length-set states place after ∙ w.count;
      done = below_more (λ k. state_at (set states place after) k ≡ after_on project moment (state_at old k) k) place
          (λ k h. other_state k (λ e. absurd (omega (arith, e, h))) ∙ w.done k h)
          (new_state ∙ s.after_is ∙ ap (λ (x : SubState). after_on project moment x place) was);
      told = below_more (λ k. step_at (set steps place step) k ≡ step_on project moment (state_at old k) k) place
          (λ k h. other_step k (λ e. absurd (omega (arith, e, h))) ∙ w.told k h)
          (new_step ∙ s.step_is ∙ ap (λ (x : SubState). step_on project moment x place) was);
      left = λ k h. other_state k (λ e. absurd (omega (arith, e, h))) ∙ w.left k (omega (arith, h));
      grown = below_more (λ k. SubGrowsSlowly (sub_at project.subs k) project.options.wet_ms (state_at old k)
          (state_at (set states place after) k)) place
          (λ k h. subst (λ (x : SubState). SubGrowsSlowly (sub_at project.subs k) project.options.wet_ms
          (state_at old k) x) (sym (other_state k (λ e. absurd (omega (arith, e, h))))) (w.grown k h))
          (subst (λ (x : SubState). SubGrowsSlowly (sub_at project.subs place) project.options.wet_ms
          (state_at old place) x) (sym new_state)
          (subst (λ (x : SubState). SubGrowsSlowly (sub_at project.subs place) project.options.wet_ms x after) was
          s.grown));
      range = below_more (λ k. StepInRange (step_at (set steps place step) k)) place
          (λ k h. subst StepInRange (sym (other_step k (λ e. absurd (omega (arith, e, h))))) (w.range k h))
          (subst StepInRange (sym new_step) s.range);
      closed = below_more (λ k. IsClosed (step_at (set steps place step) k)) place
          (λ k h. subst (λ (x : SubStep). IsClosed x) (sym (other_step k (λ e. absurd (omega (arith, e, h)))))
          (w.closed k h))
          (subst (λ (x : SubStep). IsClosed x) (sym new_step) s.closed);
    }

-- each item of a list of steps, by its number
pub all_steps : (P : SubStep → Type 0) (steps : List SubStep) (n : ℕ) → length steps ≡ n
    → ((k : ℕ) → k < n → P (step_at steps k)) → All P steps
all_steps P steps n long each =
    All-from_get_or P steps no_step (λ k h. each k (omega (arith, h, long)))

pub stepped_none : (project : Project) (moment : ℤ) (old : List SubState) (steps : List SubStep)
    → Stepped project moment old old steps 0
stepped_none project moment old steps = record {
  count = refl;
  done = λ k h. absurd (omega (arith, h));
  told = λ k h. absurd (omega (arith, h));
  left = λ k h. refl;
  grown = λ k h. absurd (omega (arith, h));
  range = λ k h. absurd (omega (arith, h));
  closed = λ k h. absurd (omega (arith, h));
}

-- what a step of a subcatchment gave, where it is this one of the project
pub step_at_place : (project : Project) (moment : ℤ) (sub : Sub) (before after : SubState) (step : SubStep) (k : ℕ)
    → sub ≡ sub_at project.subs k
    → step ≡ sub_step_of sub before (intensity_of project sub.gage moment) project.options.wet_ms
    → after ≡ sub_state_after sub before (intensity_of project sub.gage moment) project.options.wet_ms
    → SubGrowsSlowly sub project.options.wet_ms before after → StepInRange step → IsClosed step
    → StepAt project moment before after step k
step_at_place project moment sub before after step k e s a g range closed = record {
  after_is = a ∙ ap (λ (x : Sub). sub_state_after x before (intensity_of project x.gage moment)
      project.options.wet_ms) e;
  step_is = s ∙ ap (λ (x : Sub). sub_step_of x before (intensity_of project x.gage moment)
      project.options.wet_ms) e;
  grown = subst (λ (x : Sub). SubGrowsSlowly x project.options.wet_ms before after) e g;
  range = range;
  closed = closed;
}
