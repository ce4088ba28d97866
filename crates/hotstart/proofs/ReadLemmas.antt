-- What is read of a file is what the definition says.
use Rattle.std.proofs.Common.{◌≡◌, ◌∙◌, ℕ, ◌+◌, ◌*◌, cond, List, Option, Some, ℤ, refl, sym, ap, subst}
use Rattle.fixed_num.specs.Lists.{list_of}
use Rattle.net_types.specs.declared.options.InfilKind.{InfilKind}
use Rattle.net_types.specs.declared.project.Project.{Project}
use Rattle.hotstart.specs.Checks.{IsGoodFile}
use Rattle.hotstart.specs.Layout.{value_at, is_old, layout_of, file_fault}
use Rattle.hotstart.specs.Reading.{reading_of, answer_for, answer_or, old_state}
use Rattle.hotstart.specs.Reading.{new_state, shape_of, column, sub_at, sub_width}
use Rattle.hotstart.specs.declared.read.HotRead.{HotRead}
use Rattle.hotstart.specs.declared.read.HotRead.TheVariants.{Good}
use Rattle.hotstart.specs.declared.refusal.Refusal.{Refusal}
use Rattle.hotstart.specs.declared.shape.Shape.{Shape}
use Rattle.hotstart.specs.declared.state.HotState.{HotState}
use Rattle.hotstart.specs.declared.state.HotSub.{HotSub}

abbrev state_of : InfilKind → (heads flows settings : List ℤ) → (least : ℤ) → (subs : List HotSub) → HotState
state_of kind heads flows settings least subs = record { kind = kind; heads = heads; flows = flows; settings = settings; least = least; subs = subs }

pub new_state_is : (project : Project) (file : List ℕ) (shape : Shape) (heads flows settings : List ℤ) (least : ℤ) (subs : List HotSub) → shape ≡ shape_of project
    → heads ≡ column file 24 8 shape.nodes → flows ≡ column file (24 + 8 * shape.nodes) 16 shape.links → settings ≡ column file (32 + 8 * shape.nodes) 16 shape.links
    → least ≡ value_at file (24 + 8 * shape.nodes + 16 * shape.links)
    → subs ≡ list_of (λ (k : ℕ). sub_at shape.kind file (24 + 8 * shape.nodes + 16 * shape.links + 8 + sub_width shape.kind * k)) shape.subs
    → record { kind = shape.kind; heads = heads; flows = flows; settings = settings; least = least; subs = subs } ≡ new_state project file
new_state_is project file shape heads flows settings least subs e h f s l b =
    ap (λ (x : List ℤ). state_of shape.kind x flows settings least subs) h
    ∙ ap (λ (x : List ℤ). state_of shape.kind (column file 24 8 shape.nodes) x settings least subs) f
    ∙ ap (λ (x : List ℤ). state_of shape.kind (column file 24 8 shape.nodes) (column file (24 + 8 * shape.nodes) 16 shape.links) x least subs) s
    ∙ ap (λ (x : ℤ). state_of shape.kind (column file 24 8 shape.nodes) (column file (24 + 8 * shape.nodes) 16 shape.links) (column file (32 + 8 * shape.nodes) 16 shape.links) x subs) l
    ∙ ap (λ (x : List HotSub). state_of shape.kind (column file 24 8 shape.nodes) (column file (24 + 8 * shape.nodes) 16 shape.links) (column file (32 + 8 * shape.nodes) 16 shape.links)
    (value_at file (24 + 8 * shape.nodes + 16 * shape.links)) x) b
    ∙ by_shape shape (sym e)
  where
    whole : Shape → HotState
    whole s = state_of s.kind (column file 24 8 s.nodes) (column file (24 + 8 * s.nodes) 16 s.links) (column file (32 + 8 * s.nodes) 16 s.links)
        (value_at file (24 + 8 * s.nodes + 16 * s.links)) (list_of (λ (k : ℕ). sub_at s.kind file (24 + 8 * s.nodes + 16 * s.links + 8 + sub_width s.kind * k)) s.subs)

    by_shape : (s : Shape) → shape_of project ≡ s → whole s ≡ new_state project file
    by_shape s g = subst (λ (t : Shape). whole t ≡ new_state project file) g refl

pub read_fault : (project : Project) (file : List ℕ) (shape : Shape) (refusal : Refusal) (read : HotRead) → shape ≡ shape_of project
    → file_fault file (layout_of shape file) ≡ Some refusal → read ≡ answer_for refusal → read ≡ reading_of project file
unfolding reading_of
read_fault project file shape refusal read e f a =
    a ∙ sym (ap (λ (o : Option Refusal). answer_or o (cond (is_old file) (old_state project file) (new_state project file))) (ap (λ (s : Shape). file_fault file (layout_of s file)) (sym e) ∙ f))

pub read_good : (project : Project) (file : List ℕ) (shape : Shape) (state : HotState) → shape ≡ shape_of project → IsGoodFile file (layout_of shape file)
    → state ≡ cond (is_old file) (old_state project file) (new_state project file) → Good state ≡ reading_of project file
unfolding reading_of
read_good project file shape state e good a =
    ap Good a ∙ sym (ap (λ (o : Option Refusal). answer_or o (cond (is_old file) (old_state project file) (new_state project file)))
    (ap (λ (s : Shape). file_fault file (layout_of s file)) (sym e) ∙ good.no_fault))
