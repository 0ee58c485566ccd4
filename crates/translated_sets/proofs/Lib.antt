mod AcceptedSets
