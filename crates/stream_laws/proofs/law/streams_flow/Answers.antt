use Rattle.stream_laws.proofs.Laws.{pipelines-flow, lists-stay, sinks-hold-all}
use Rattle.stream_laws.proofs.law.streams_flow.Goals as goal

pub returns : goal.returns
returns c = record { flows = pipelines-flow; list = lists-stay; whole = sinks-hold-all }
