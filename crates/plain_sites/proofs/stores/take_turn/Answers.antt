use Rattle.std.proofs.Common.{◌≡◌, ◌<◌, ◌∙◌, Some, ap, subst, sym}
use Rattle.std.specs.Option.{option_map}
use Rattle.journal.specs.Settling.{first_request}
use Rattle.journal.specs.Stores as stores
use Rattle.plain_calls.specs.View.{traffic_of}
use Rattle.plain_choices.specs.View.{work_of}
use Rattle.plain_sites.specs.View.{site_at}
use Rattle.plain_sites.proofs.Deliveries.{none-of}
use Rattle.plain_sites.proofs.StoreTurns.{few-made, for-first, no-turn, turn-as, turn-of}
use Rattle.plain_stores.specs.View.{node_of}
use Rattle.plain_sites.proofs.stores.take_turn.Goals as goal

pub returns-in_default : goal.returns-in_default
returns-in_default c ts u sound kept may =
    let s = site_at ts c.args.node.now c.args.calls.now in
    absurd (no-turn s (stores.AllowsStore s u c.args.end c.args.pick)
    (sym (ap (option_map work_of) (none-of c.next_work.result c.in_default.not-Some))
    ∙ c.next_work.ensures ts (traffic_of c.args.calls.now) kept) may)

pub returns-in-Syncs : goal.returns-in-Syncs
returns-in-Syncs c ts u sound kept may =
    let t = traffic_of c.args.calls.now in
    let s = site_at ts c.args.node.now c.args.calls.now in
    let works : Some stores.syncs ≡ option_map (stores.work_of s) (first_request (node_of ts c.args.node.now)) =
    sym (ap (λ w. Some (work_of w)) c.in-Syncs.is) ∙ (sym (ap (option_map work_of) c.in-Some.is) ∙ c.next_work.ensures ts t kept) in
    let x = turn-of s u c.args.end c.args.pick stores.syncs sound works may in
    c.sync.ensures ts x.request c.args.pick x.serves x.ends
    ∙ turn-as s x.request stores.syncs c.args.end c.args.pick x.first x.is

pub returns-in-Reads : goal.returns-in-Reads
returns-in-Reads c ts u sound kept may =
    let t = traffic_of c.args.calls.now in
    let s = site_at ts c.args.node.now c.args.calls.now in
    let works : Some stores.reads ≡ option_map (stores.work_of s) (first_request (node_of ts c.args.node.now)) =
    sym (ap (λ w. Some (work_of w)) c.in-Reads.is) ∙ (sym (ap (option_map work_of) c.in-Some.is) ∙ c.next_work.ensures ts t kept) in
    let x = turn-of s u c.args.end c.args.pick stores.reads sound works may in
    c.read.ensures ts x.request x.serves x.ends
    ∙ turn-as s x.request stores.reads c.args.end c.args.pick x.first x.is

pub returns-in_ok-succeed-in-Unkept : goal.returns-in_ok-succeed-in-Unkept
returns-in_ok-succeed-in-Unkept c ts u sound kept may =
    let t = traffic_of c.args.calls.now in
    let s = site_at ts c.args.node.now c.args.calls.now in
    let works : Some stores.unkept ≡ option_map (stores.work_of s) (first_request (node_of ts c.args.node.now)) =
    sym (ap (λ w. Some (work_of w)) c.in-Unkept.is) ∙ (sym (ap (option_map work_of) c.in-Some.is) ∙ c.next_work.ensures ts t kept) in
    let x = turn-of s u c.args.end c.args.pick stores.unkept sound works may in
    c.in_ok-succeed-in-Unkept.ensures ts x.request x.serves
    ∙ turn-as s x.request stores.unkept c.args.end c.args.pick x.first x.is

pub returns-in-WithoutRoom : goal.returns-in-WithoutRoom
returns-in-WithoutRoom c ts u sound kept may =
    let t = traffic_of c.args.calls.now in
    let s = site_at ts c.args.node.now c.args.calls.now in
    let works : Some stores.without_room ≡ option_map (stores.work_of s) (first_request (node_of ts c.args.node.now)) =
    sym (ap (λ w. Some (work_of w)) c.in-WithoutRoom.is) ∙ (sym (ap (option_map work_of) c.in-Some.is) ∙ c.next_work.ensures ts t kept) in
    let x = turn-of s u c.args.end c.args.pick stores.without_room sound works may in
    for-first _ _ x.request (c.end_first.ensures ts t x.serves.in_order x.serves.answers) x.first
    ∙ turn-as s x.request stores.without_room c.args.end c.args.pick x.first x.is

pub returns-in_ok-call-in-Calls : goal.returns-in_ok-call-in-Calls
returns-in_ok-call-in-Calls c ts u sound kept may =
    let t = traffic_of c.args.calls.now in
    let s = site_at ts c.args.node.now c.args.calls.now in
    let works : Some stores.calls ≡ option_map (stores.work_of s) (first_request (node_of ts c.args.node.now)) =
    sym (ap (λ w. Some (work_of w)) c.in-Calls.is) ∙ (sym (ap (option_map work_of) c.in-Some.is) ∙ c.next_work.ensures ts t kept) in
    let x = turn-of s u c.args.end c.args.pick stores.calls sound works may in
    c.in_ok-call-in-Calls.ensures ts x.request c.args.pick x.serves x.ends
    (λ part. few-made s u c.args.pick c.args.end x.request
    (subst (λ n. n < 4294967296) c.size_of-size.ensures c.size_of-size.type_inv) x.may (sym x.is) part)
    ∙ turn-as s x.request stores.calls c.args.end c.args.pick x.first x.is
