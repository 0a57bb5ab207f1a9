use Rattle.std.proofs.Common.{◌≡◌, ◌++◌, ◌∷◌, [], ◌∙◌, ap, rules}
use Rattle.std.proofs.lemmas.Fn.{filter_same}
use Rattle.std.specs.List.{filter}
use Rattle.invocation.specs.Mail.{is_open}
use Rattle.invocation.specs.Numbers.{passes_at}
use Rattle.invocation.proofs.askers.join_open.Goals as goal

pub returns-clause-joined : goal.returns-clause-joined
returns-clause-joined c =
    let test = passes_at is_open c.args.calls.now in
    let kept : c.retain.new.self.items ≡ filter test c.reserve.new.self.items =
    filter_same _ test _ (λ x b f' k. search rules) c.reserve.new.self.items c.retain.new.self.items c.retain.ensures.filtered in
    c.push_reserved.ensures.items ∙ ap (λ l. l ++ c.args.call ∷ []) (kept ∙ ap (filter test) c.reserve.ensures.items)
