use Rattle.ciborium_value.proofs.from_notation.levels.step_behind.Goals as goal

pub returns-in-Array : goal.returns-in-Array
returns-in-Array c = rw c.in-Array.is c.step_behind_item.ensures

pub returns-in-Keys : goal.returns-in-Keys
returns-in-Keys c = rw c.in-Keys.is c.step_behind_key.ensures

pub returns-in-Values : goal.returns-in-Values
returns-in-Values c = rw c.in-Values.is c.step_behind_value.ensures

pub returns-in-Tag : goal.returns-in-Tag
returns-in-Tag c = rw c.in-Tag.is c.step_behind_content.ensures
