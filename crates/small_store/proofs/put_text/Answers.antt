use Rattle.small_store.proofs.Kept.{put_is_kept}
use Rattle.small_store.proofs.put_text.Goals as goal

pub returns-clause-kept : goal.returns-clause-kept
returns-clause-kept g c tells =
    put_is_kept _ _ _ _ _ _ _ _ _ c.uid_of.ensures c.as_bytes.ensures.value c.put.ensures.changes tells
