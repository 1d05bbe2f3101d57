use Rattle.session_txs.proofs.Openings.{fits_so, logs_so}
use Rattle.session_txs.proofs.beginning.begin.Goals as goal

pub running-requires-clause-fits : goal.running-requires-clause-fits
running-requires-clause-fits g c κs within = fits_so c.args.begun c.into_parts-parts.result c.into_parts-parts.ensures.parts c.args.databases.now c.name.result.now c.name.ensures c.in_ok-version.version c.in_ok-version.stores c.in_ok-version.ensures.part
    c.requires.fits

pub running-requires-clause-loggable : goal.running-requires-clause-loggable
running-requires-clause-loggable g c κs within = logs_so c.args.begun c.into_parts-parts.result c.into_parts-parts.ensures.parts c.args.databases.now c.name.result.now c.name.ensures c.in_ok-version.version c.in_ok-version.stores c.in_ok-version.ensures.part
    c.requires.loggable
