use Rattle.sound.proofs.arrays.none_in_use.Goals as goal

pub returns-then-count-eq0 : goal.returns-then-count-eq0
returns-then-count-eq0 g c q h = rw (c.if-count-eq0.true) (c.fits.ensures q q h h)
