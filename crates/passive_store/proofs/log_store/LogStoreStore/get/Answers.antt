use Rattle.std.proofs.Common.{◌≡◌, ℕ, List, Option, inl, refl, sym, ap, subst, ◌∙◌}
use Rattle.std.specs.Prelude.{IsSome}
use Rattle.std.proofs.lemmas.Bool.{false≢true}
use Rattle.eden_disk.proofs.Timed.{timed_join}
use Rattle.eden_disk.proofs.Held.{moments_join, moments_weaker, obeyed_more}
use Rattle.passive_store.proofs.Changing.{first_refused, picked_first}
use Rattle.passive_store.specs.Kept.{Kept, body_at, Stands, changes_in, doubt_in, settled, work_settled, IsAnyOf}
use Rattle.std.proofs.lemmas.Result.{err_from_is_err_and}
use Rattle.capability.specs.declared.lists.Seq.{Seq}
use Rattle.passive_store.specs.Log.{log_map}
use Rattle.passive_store.specs.LogLayout.{log_layout, log_changes, reads_for}
use Rattle.passive_store.specs.LogState.{state_kept}
use Rattle.passive_store.proofs.Joining.{ran_join, settled_back, reads_behind, reads_refused, ran_refused_more, obeyed_alike}
use Rattle.passive_store.proofs.Getting.{reads_then, found_then}
use Rattle.passive_store.proofs.Tails.{log_image}
use Rattle.passive_store.proofs.log_store.LogStoreStore.get.Goals as goal

pub returns : goal.returns
returns g c =
    let r = c.read_body.ensures.ran in
    let e = c.in_ok-settle_log.ensures in
    let b = c.read_body.ensures in
    record {
      goes = record {
        node = b.node ∙ e.node;
        obeyed = λ so. obeyed_more e.ran.made r.1.0.made _ _ _ _ _ _ _ e.ran.counts r.1.0.counts (e.obeyed so) (b.obeyed so);
        timed = λ so. timed_join _ _ _ _ _ _ (e.timed so) (b.timed so);
        stands = b.stands;
      };
      only = b.only;
      calls = r.0;
      ran = ran_join _ (Unit {0}) _ r.0 tt c.read_body.result _ _ _ e.ran r.1.0;
      found = r.1.1;
      by_layout = λ tells. r.1.2 tells ∙ ap (λ (k : Kept). reads_for (body_at k c.args.uid)) (sym (b.kept tells));
      order = λ tells. reads_behind _ c.args.self.now.work r.0 c.read_body.result _ _ _ (e.order tells) (r.1.3 tells);
      reads = λ tells. reads_then _ _ _ _ c.read_body.result
          (λ some. subst (λ (k : Kept). IsSome (body_at k c.args.uid)) (sym (b.kept tells)) some) (b.reads tells);
      picked = picked_first _ _ c.args.self.now.work c.read_body.result b.picked e.picked;
      work = b.work ∙ e.work ∙ ap (λ p. work_settled p c.args.self.now.work) (sym b.picked);
      more = refl;
      at = refl;
      kept = λ tells. b.kept tells ∙ e.kept tells
          ∙ ap (λ p. settled p c.args.self.now.work (state_kept g.D.Disk.told c.args.self.now)) (sym b.picked);
      body = λ tells. found_then c.read_body.result
          (λ (found : Option (List ℕ)) (is : found ≡ body_at (state_kept g.D.Disk.told c.settle_log.new.self) c.args.uid). is
          ∙ ap (λ (k : Kept). body_at k c.args.uid) (sym (b.kept tells))) (b.body tells);
      moments = λ tells.
          let w = c.args.self.now.work in
          let s : Kept = state_kept g.D.Disk.told c.args.self.now in
          let mid : Kept = state_kept g.D.Disk.told c.settle_log.new.self in
          let P : List ℕ → Type 0 = Stands log_layout c.args.self.now.node log_changes s (changes_in (doubt_in w)) in
          moments_join P (g.D.Disk.told c.args.self.now.device) (g.D.Disk.told c.settle_log.new.self.device)
          (g.D.Disk.told c.read_body.new.self.device)
          (c.in_ok-settle_log.ensures.moments tells)
          (moments_weaker (Stands log_layout c.settle_log.new.self.node log_changes mid (changes_in (doubt_in c.settle_log.new.self.work)))
          P _ _
          (λ image h. log_image c.args.self.now.node s (changes_in (doubt_in w)) image
          (settled_back c.settle_log.new.self.picked w s (log_map c.args.self.now.node image) (c.in_ok-settle_log.ensures.fresh tells)
          (subst (λ n. IsAnyOf (settled c.settle_log.new.self.picked w s)
          (changes_in (doubt_in (work_settled c.settle_log.new.self.picked w))) (log_map n image)) c.in_ok-settle_log.ensures.node
          (subst (λ (x : Kept). IsAnyOf x (changes_in (doubt_in (work_settled c.settle_log.new.self.picked w)))
          (log_map c.settle_log.new.self.node image)) (c.in_ok-settle_log.ensures.kept tells)
          (subst (λ x. IsAnyOf mid (changes_in (doubt_in x)) (log_map c.settle_log.new.self.node image)) c.in_ok-settle_log.ensures.work
          h.found)))))
          (c.read_body.ensures.moments tells));
    }

pub returns-in_err-settle_log : goal.returns-in_err-settle_log
returns-in_err-settle_log g c =
    let p = err_from_is_err_and c.from_residual.result c.from_residual.ensures.1 in
    let calls = reads_for (body_at (state_kept g.D.Disk.told c.settle_log.new.self) c.args.uid) in
    let e = c.in_err-settle_log.ensures in
    rw (p.1, p.2) (record {
      goes = record {
        node = e.node;
        obeyed = λ so. obeyed_alike (Unit {0}) (Option (Seq ℕ)) _ _ _ _ _ (e.obeyed so);
        timed =
            e.timed;
        stands = e.stands;
      };
      only = inl e.only;
      calls = calls;
      ran = ran_refused_more (Unit {0}) (Option (Seq ℕ)) _ calls _ _ _ e.only e.ran;
      found = tt;
      by_layout = λ tells. refl;
      order = λ tells. reads_refused (Unit {0}) (Option (Seq ℕ)) c.args.self.now.work calls _ _ _ e.only (e.order tells);
      reads = λ tells refusal settled. absurd (false≢true (sym e.picked ∙ settled ∙ e.refused));
      picked = first_refused (Option (Seq ℕ)) _ c.args.self.now.work _ e.only e.picked;
      work = e.work;
      more = refl;
      at = refl;
      kept = e.kept;
      body = λ tells. tt;
      moments = e.moments;
    })
