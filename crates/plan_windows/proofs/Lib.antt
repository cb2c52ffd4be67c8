mod CutSheetLaws
mod MirrorLaws
mod ExtremeLaws
mod MarkedCutLaws
mod NarrowLaws
