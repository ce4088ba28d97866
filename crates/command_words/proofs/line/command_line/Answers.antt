-- The form of the line, setting by setting and argument by argument.
use Rattle.std.proofs.Common.{◌≡◌, ◌∙◌, ap, ap₂, true}
use Rattle.std.proofs.lemmas.Result.{IfOk-weaker}
use Rattle.clap.specs.Built.{AddsArg}
use Rattle.clap.specs.Simple.{App, app_of, app_of_fields, with_rule}
use Rattle.clap.specs.declared.builder.command.Command.{Command}
use Rattle.command_words.specs.ClapLine.{bare_app}
use Rattle.command_words.proofs.line.command_line.Goals as goal

pub returns : goal.returns
returns c =
    let bare : app_of c.disable_version_flag-bare.result ≡ bare_app =
    ap app_of_fields c.disable_version_flag-bare.ensures
    ∙ ap (λ f. app_of_fields (record f { disable_version_flag = true })) c.disable_help_flag.ensures
    ∙ ap (λ f. app_of_fields (record f { disable_help_flag = true; disable_version_flag = true })) c.no_binary_name.ensures
    ∙ ap (λ (a : App). record a { top = record a.top { no_binary_name = true; disable_help_flag = true; disable_version_flag = true } }) c.new.ensures.app in
    let mode = c.in_ok-arg.ensures.shape c.place.ensures.local ∙ ap₂ with_rule bare c.place.ensures.rule in
    let first = c.in_ok-arg-2.ensures.shape c.place-2.ensures.local ∙ ap₂ with_rule mode c.place-2.ensures.rule in
    let second = c.in_ok-arg-3.ensures.shape c.place-3.ensures.local ∙ ap₂ with_rule first c.place-3.ensures.rule in
    let threads = c.in_ok-arg-4.ensures.shape c.option.ensures.local ∙ ap₂ with_rule second c.option.ensures.rule in
    let hot_in = c.in_ok-arg-5.ensures.shape c.option-2.ensures.local ∙ ap₂ with_rule threads c.option-2.ensures.rule in
    IfOk-weaker c.arg-6.result _ _ (λ (command : Command) (adds : AddsArg c.in_ok-arg-5.field-0 c.option-3.result command). adds.shape c.option-3.ensures.local ∙ ap₂ with_rule hot_in c.option-3.ensures.rule) c.arg-6.ensures
