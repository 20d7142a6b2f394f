pub mod CallLines
mod LineReadings
mod LineSplits
mod LinesBack
mod PartBytes
mod Parts
mod SlotsAlone
mod SumBytes
mod TextsBack
mod Times
