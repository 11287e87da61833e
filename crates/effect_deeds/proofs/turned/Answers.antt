-- Each fate has its own function.
use Rattle.effect_deeds.specs.Deeds.{done}
use Rattle.paper.specs.Records.{zeros}
use Rattle.effect_deeds.proofs.turned.Goals as goal

pub returns-in-Stays : goal.returns-in-Stays
unfolding done
returns-in-Stays c = rw c.in-Stays.is

pub returns-in-Freed : goal.returns-in-Freed
unfolding done zeros
returns-in-Freed c = rw c.in-Freed.is

pub returns-in-KeyCleared : goal.returns-in-KeyCleared
unfolding done
returns-in-KeyCleared c = rw c.in-KeyCleared.is c.clear.ensures

pub returns-in-PukCleared : goal.returns-in-PukCleared
unfolding done
returns-in-PukCleared c = rw c.in-PukCleared.is c.clear-in-PukCleared.ensures

pub returns-in-MadeStale : goal.returns-in-MadeStale
unfolding done
returns-in-MadeStale c = rw c.in-MadeStale.is c.stale.ensures

pub returns-in-Shut : goal.returns-in-Shut
unfolding done
returns-in-Shut c = rw c.in-Shut.is c.shut.ensures

pub returns-in-NewPin : goal.returns-in-NewPin
unfolding done
returns-in-NewPin c = rw c.in-NewPin.is c.with_pin.ensures

pub returns-in-NewPinCleared : goal.returns-in-NewPinCleared
unfolding done
returns-in-NewPinCleared c = rw (c.in-NewPinCleared.is, c.clear-in-NewPinCleared.ensures, c.with_pin-in-NewPinCleared.ensures)
