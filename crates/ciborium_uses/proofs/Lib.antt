mod CriticalLabels
mod Exits
mod KeptLabels
mod WholeItems
mod WholeMessages
mod LogEnds
