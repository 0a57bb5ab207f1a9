use Rattle.history_laws.proofs.SiteFrames.{keeps-site}
use Rattle.history_laws.proofs.EventCalls.{calls-go-on}
use Rattle.history_laws.proofs.site_law.an_event_keeps_its_site.Goals as goal

pub returns : goal.returns
returns c = record { site = keeps-site; calls = calls-go-on }
