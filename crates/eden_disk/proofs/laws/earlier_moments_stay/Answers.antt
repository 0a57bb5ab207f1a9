use Rattle.eden_disk.proofs.Timed.{after_earlier, in_earlier, after_later, in_later}
use Rattle.eden_disk.proofs.laws.earlier_moments_stay.Goals as goal

pub returns-clause-after : goal.returns-clause-after
returns-clause-after c = after_earlier

pub returns-clause-within : goal.returns-clause-within
returns-clause-within c = in_earlier

pub returns-clause-after_later : goal.returns-clause-after_later
returns-clause-after_later c = λ begin between end m first mid last image a b h l. after_later begin between m first mid last image a
    b.acts b.since h l

pub returns-clause-within_later : goal.returns-clause-within_later
returns-clause-within_later c = λ begin between end m first mid last image a b h l. in_later begin between m first mid last image a b.acts
    b.since h l
