mod Roomy
mod Aging
