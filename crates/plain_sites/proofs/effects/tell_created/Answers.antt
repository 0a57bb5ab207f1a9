use Rattle.plain_sites.proofs.effects.tell_created.Goals as goal

pub returns : goal.returns
returns c ts t e it h = c.act_on.ensures ts t e it h tt
