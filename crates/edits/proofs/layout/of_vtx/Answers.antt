-- `layout::of_vtx` meets its contract. Assumes nothing.
use Rattle.edits.proofs.layout.of_vtx.Goals as goal

pub returns-in-SetFrequency : goal.returns-in-SetFrequency
returns-in-SetFrequency c = rw c.in-SetFrequency.is c.plain.ensures

pub returns-in-EnablePitModeOnPowerUp : goal.returns-in-EnablePitModeOnPowerUp
returns-in-EnablePitModeOnPowerUp c = rw c.in-EnablePitModeOnPowerUp.is c.plain-in-EnablePitModeOnPowerUp.ensures

pub returns-in-SetDynamicPower : goal.returns-in-SetDynamicPower
returns-in-SetDynamicPower c = rw c.in-SetDynamicPower.is c.plain-in-SetDynamicPower.ensures

pub returns-in-SetPower : goal.returns-in-SetPower
returns-in-SetPower c = rw c.in-SetPower.is c.plain-in-SetPower.ensures
